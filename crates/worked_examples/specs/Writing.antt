-- Canonical forms and payloads: document 01, "Edge chunks" and the examples of refusals 16 and 17.
use Rattle.std.specs.Prelude.{List, [], ◌∷◌, ◌++◌, ℕ, Ok}
use Rattle.reflection.specs.Reflection.{ResourceDef, rd11}
use Rattle.reflection.specs.Texts.{in_chunk}
use Rattle.reflection.specs.Contents.{Bytes, contents}
use Rattle.text_output.specs.Ascii.{ascii}
use Rattle.write_spec.specs.Outcome.{scratch_size}
use Rattle.write_spec.specs.Payload.{whole_chunk, written}
use Rattle.write_spec.specs.EdgeChunks.{bytes, header, major4, major5, no_text, case_v, case_v5, float, globals, read_v, floats_ab}
use Rattle.worked_examples.specs.Example.{Example, writes, hands_back, refusal}
use Rattle.worked_examples.specs.Chunks.{case_e, case_vdefault, chunk_ab, with_bindings, binding, empty}

-- With the writer's scratch, into an output of exactly as many bytes as there are.
abbrev written_as : ResourceDef Bytes Bytes → Bytes → ℕ → Example
written_as r chunk n = writes scratch_size n r (Ok chunk) n

-- Major 4, one binding `t`, in a space; empty creator.
abbrev binding_t : ℕ → ResourceDef Bytes Bytes
binding_t space = with_bindings [] (binding (ascii "t") 0 space ∷ [])

-- Its canonical form where the space is 0: name at 60, creator at 62.
abbrev written_t : Bytes
written_t = header 0 0 1 28 major4 62 ++ bytes (60 ∷ 0 ∷ 0 ∷ 0 ∷ 0 ∷ 0 ∷ 0 ∷ 0 ∷ []) ++ ascii "t" ++ (0 ∷ 0 ∷ 0xab ∷ [])

unfoldable pub writing_examples : List Example
writing_examples =
    -- "P: E's canonical form is 32 bytes, creator offset 28, ending 00 AB AB AB. Its unedited payload is the 28."
    written_as (contents [] [] empty) (header 0 0 0 28 major4 28 ++ (0x00 ∷ 0xab ∷ 0xab ∷ 0xab ∷ [])) 32
    ∷ hands_back 0 case_e (contents case_e [] empty) (Ok whole_chunk) 28
    -- "P: major 4, one binding `t`, empty creator: name at 60, creator at 62, length 64"
    ∷ written_as (binding_t 0) written_t 64
    -- the payload of what E does not read as: "else the output's written part"
    ∷ hands_back 64 case_e (binding_t 0) (Ok (written written_t)) 64
    -- "P, case V: .. buffers at 28, variables at 64, type at 92, creator at 108, length 112": V as it reads is written as V
    ∷ written_as (contents (case_v 0) [] (read_v float 108 (in_chunk 0 0))) (case_v 0) 112
    -- "P: with a 4-byte default it lies at 108 and the length is 116"
    ∷ written_as (contents (case_v 108) [] (read_v float 108 (in_chunk 108 4))) (case_vdefault no_text) 116
    -- "P: the same as V in major 5: variables at 96, type at 140, length 180"
    ∷ written_as (contents case_v5 [] (globals major5 (rd11 0x31314452 32 0) 176 84 136 0xffffffff float (in_chunk 0 0))) case_v5 180
    -- "P: as V but floats `a` and `b` with 4-byte defaults: unequal defaults give 148 bytes, equal ones 140": unequal ones lie at 132 and 140, the creator at
    -- 144; equal ones both at 132, the creator at 138
    ∷ written_as (floats_ab (1 ∷ 2 ∷ 3 ∷ 4 ∷ []) (1 ∷ 2 ∷ 3 ∷ 5 ∷ []))
    (chunk_ab 144 140 ++ (1 ∷ 2 ∷ 3 ∷ 4 ∷ []) ++ ascii "b" ++ (0 ∷ 0xab ∷ 0xab ∷ []) ++ (1 ∷ 2 ∷ 3 ∷ 5 ∷ []) ++ no_text) 148
    ∷ written_as (floats_ab (1 ∷ 2 ∷ 3 ∷ 4 ∷ []) (1 ∷ 2 ∷ 3 ∷ 4 ∷ []))
    (chunk_ab 138 132 ++ (1 ∷ 2 ∷ 3 ∷ 4 ∷ []) ++ ascii "b" ++ (0 ∷ 0 ∷ 0xab ∷ [])) 140
    -- the examples of 16 and 17; scratch that is a word short is 15, before both
    ∷ writes scratch_size 64 (binding_t 1) (refusal 16) 0
    ∷ writes scratch_size 31 (contents [] [] empty) (refusal 17) 0
    ∷ writes 95359 31 (binding_t 1) (refusal 15) 0
    ∷ []
