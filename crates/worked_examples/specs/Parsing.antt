-- What texts are understood as: document 01, "Spelling and listing", "Edge chunks" and the example of refusal 18.
use Rattle.std.specs.Prelude.{List, [], ◌∷◌, ◌++◌, ℕ, Ok, Err}
use Rattle.reflection.specs.Contents.{Bytes}
use Rattle.text_output.specs.Ascii.{ascii}
use Rattle.worked_examples.specs.Example.{Example, parses}

-- A text with class, base, rows, columns and elements; or a text that is 18.
abbrev understood : Bytes → ℕ → ℕ → ℕ → ℕ → ℕ → Example
understood text class base rows columns elements =
    parses text (Ok (record { class = class; base = base; rows = rows; columns = columns; elements = elements }))

abbrev not_understood : Bytes → Example
not_understood text = parses text (Err 18)

unfoldable pub parsing_examples : List Example
parsing_examples =
    -- "P: `float4[10]` reads as class 1, base 3, rows 1, columns 4, elements 10"
    understood (ascii "float4[10]") 1 3 1 4 10
    -- the five bases; a vector, a matrix (class 3), arrays
    ∷ understood (ascii "bool") 0 1 1 1 0
    ∷ understood (ascii "int") 0 2 1 1 0
    ∷ understood (ascii "float") 0 3 1 1 0
    ∷ understood (ascii "uint") 0 19 1 1 0
    ∷ understood (ascii "double") 0 39 1 1 0
    ∷ understood (ascii "int3") 1 2 1 3 0
    ∷ understood (ascii "double2x3") 3 39 2 3 0
    ∷ understood (ascii "uint[7]") 0 19 1 1 7
    ∷ understood (ascii "float4x4[2]") 3 3 4 4 2
    -- "a leading `+` and leading zeros are taken: `float[+3]`, `float4x+3`"
    ∷ understood (ascii "float[+3]") 0 3 1 1 3
    ∷ understood (ascii "float4x+3") 3 3 4 3 0
    ∷ understood (ascii "float[+0]") 0 3 1 1 0
    ∷ understood (ascii "float000000000000000000000004") 1 3 1 4 0
    ∷ understood (ascii "bool01x+02[0003]") 3 1 1 2 3
    -- "Numbers fit 16 bits": 0 is a number, 65,535 the largest
    ∷ understood (ascii "float0") 1 3 1 0 0
    ∷ understood (ascii "float[0]") 0 3 1 1 0
    ∷ understood (ascii "float0x0") 3 3 0 0 0
    ∷ understood (ascii "float65535x65535[65535]") 3 3 65535 65535 65535
    -- "`float3x`, `float[]`, `float65536`, empty text and ill-formed UTF-8 are 18": a number that is too large, or none where there should be one
    ∷ not_understood (ascii "float65536")
    ∷ not_understood (ascii "float4x65536")
    ∷ not_understood (ascii "float[65536]")
    ∷ not_understood (ascii "float65536x4")
    ∷ not_understood (ascii "float4294967300")
    ∷ not_understood (ascii "float3x")
    ∷ not_understood (ascii "float[]")
    ∷ not_understood (ascii "float[+]")
    ∷ not_understood (ascii "float4x+")
    -- a sign where none is taken
    ∷ not_understood (ascii "float+4")
    ∷ not_understood (ascii "float[-0]")
    ∷ not_understood (ascii "float-4")
    ∷ not_understood (ascii "float[++3]")
    ∷ not_understood (ascii "float+4x4")
    -- no base, or another (`half4`: the example of 18)
    ∷ not_understood []
    ∷ not_understood (ascii "half4")
    ∷ not_understood (ascii "4")
    ∷ not_understood (ascii "[3]")
    ∷ not_understood (ascii "Float")
    ∷ not_understood (ascii "floatx3")
    ∷ not_understood (ascii "float ")
    -- more than one part of a kind, or bytes between and after the parts
    ∷ not_understood (ascii "float4x3x2")
    ∷ not_understood (ascii "float[2][3]")
    ∷ not_understood (ascii "float[[3]")
    ∷ not_understood (ascii "float[3]]")
    ∷ not_understood (ascii "float[3")
    ∷ not_understood (ascii "float3]")
    ∷ not_understood (ascii "float[3]x")
    ∷ not_understood (ascii "float[3]4")
    ∷ not_understood (ascii "float4 ")
    ∷ not_understood (ascii "float 4")
    ∷ not_understood (ascii "float[ 3]")
    -- not ASCII: `flöat4`; `float` and the digit 4 at full width; `float` and the byte 0xFF; `float4` and half a sequence
    ∷ not_understood (ascii "fl" ++ (0xc3 ∷ 0xb6 ∷ []) ++ ascii "at4")
    ∷ not_understood (ascii "float" ++ (0xef ∷ 0xbc ∷ 0x94 ∷ []))
    ∷ not_understood (ascii "float" ++ (0xff ∷ []))
    ∷ not_understood (ascii "float4" ++ (0xc3 ∷ []))
    ∷ []
