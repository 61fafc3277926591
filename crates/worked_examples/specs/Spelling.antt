-- Spellings and declarations: document 01, "Spelling and listing" and the example of refusal 18.
use Rattle.std.specs.Prelude.{List, [], ◌∷◌, ◌++◌, ℕ, Ok}
use Rattle.reflection.specs.declared.Text.{Text}
use Rattle.reflection.specs.declared.TypeDesc.{TypeDesc}
use Rattle.reflection.specs.Texts.{in_chunk}
use Rattle.reflection.specs.Contents.{Bytes}
use Rattle.text_output.specs.Ascii.{ascii}
use Rattle.worked_examples.specs.Example.{Example, spells, spells_into, declares, refusal}

-- The chunk, and the text of edits with a byte that begins no sequence at its end.
abbrev chunk : Bytes
chunk = ascii "Light"

abbrev edits : Bytes
edits = ascii "glyphs" ++ (0xff ∷ [])

abbrev light : Text
light = in_chunk 0 5

abbrev in_edits : ℕ → ℕ → Text
in_edits place n = record { source = 1; place = place; length = n }

-- A type by class, base type, rows, columns and elements; with members and a name.
abbrev named : ℕ → Text → ℕ → ℕ → ℕ → ℕ → ℕ → TypeDesc
named members name class base rows columns elements = record {
  class = class;
  var_type = base;
  rows = rows;
  columns = columns;
  elements = elements;
  member_count = members;
  extra0 = 0;
  extra1 = 0;
  extra2 = 0;
  extra3 = 0;
  name = name;
  member_name = in_chunk 0 0;
  member_offset = 0;
}

abbrev numeric : ℕ → ℕ → ℕ → ℕ → ℕ → TypeDesc
numeric = named 0 (in_chunk 0 0)

abbrev spelled : TypeDesc → Bytes → Example
spelled t bytes = spells chunk edits t (Ok bytes)

abbrev refuses : TypeDesc → ℕ → Example
refuses t number = spells chunk edits t (refusal number)

abbrev refuses_into : ℕ → TypeDesc → ℕ → Example
refuses_into output t number = spells_into output chunk edits t (refusal number)

unfoldable pub spelling_examples : List Example
spelling_examples =
    -- class 0 is the base, 1 adds columns, 2 and 3 add rows, `x`, columns; elements above 0 add `[N]`
    spelled (numeric 0 3 1 1 0) (ascii "float")
    ∷ spelled (numeric 1 3 1 4 0) (ascii "float4")
    ∷ spelled (numeric 2 3 4 3 0) (ascii "float4x3")
    ∷ spelled (numeric 3 3 4 3 0) (ascii "float4x3")
    ∷ spelled (numeric 1 3 1 4 10) (ascii "float4[10]")
    -- variable types 1, 2, 3, 19, 39 are bool, int, float, uint, double
    ∷ spelled (numeric 0 1 1 1 0) (ascii "bool")
    ∷ spelled (numeric 1 19 1 3 0) (ascii "uint3")
    ∷ spelled (numeric 3 39 2 2 5) (ascii "double2x2[5]")
    ∷ spelled (numeric 0 2 1 1 65535) (ascii "int[65535]")
    -- "Members or class 5 give the type's name, or 18 if it is empty; no array suffix is added"
    ∷ spelled (named 2 light 5 0 1 4 0) (ascii "Light")
    ∷ spelled (named 0 light 5 0 1 4 7) (ascii "Light")
    ∷ spelled (named 1 light 0 3 1 1 0) (ascii "Light")
    ∷ refuses (named 2 (in_chunk 0 0) 5 0 1 4 0) 18
    -- the example of 18: class 4; base type 5 has no spelling either
    ∷ refuses (numeric 4 3 1 1 0) 18
    ∷ refuses (numeric 0 5 1 1 0) 18
    -- a field of more than 16 bits; a name out of place or not UTF-8, though it would not be printed
    ∷ refuses (numeric 0 3 1 1 65536) 16
    ∷ refuses (named 0 (in_chunk 3 3) 0 3 1 1 0) 16
    ∷ refuses (named 0 (in_edits 6 1) 0 3 1 1 0) 16
    -- "16 precedes 18, and 18 precedes 17"
    ∷ refuses (numeric 4 3 65536 1 0) 16
    ∷ refuses_into 5 (numeric 1 3 1 4 0) 17
    ∷ refuses_into 0 (numeric 4 3 1 1 0) 18
    -- "a declaration line for a variable: its type's spelling, a space, its name, a semicolon"
    ∷ declares chunk edits (numeric 1 3 1 4 10) (in_edits 0 6) (Ok (ascii "float4[10] glyphs;"))
    ∷ declares chunk edits (numeric 4 3 1 1 0) (in_edits 0 8) (refusal 16)
    ∷ declares chunk edits (numeric 4 3 1 1 0) (in_edits 0 6) (refusal 18)
    ∷ []
