-- Listed bindings: document 01, "Spelling and listing". The lines are those that the Rust prints.
use Rattle.worked_examples.specs.Example.{Numbered}
use Rattle.std.specs.Prelude.{List, [], ◌∷◌, ◌++◌, ℕ, length, Ok}
use Rattle.reflection.specs.declared.Text.{Text}
use Rattle.reflection.specs.declared.ResourceBinding.{ResourceBinding}
use Rattle.reflection.specs.Texts.{in_chunk}
use Rattle.reflection.specs.Contents.{Bytes}
use Rattle.text_output.specs.Ascii.{ascii}
use Rattle.worked_examples.specs.Example.{Example, lists, refusal}

-- A binding with a name, an input type, a dimension, a slot, a count and flags.
abbrev binding : Text → ℕ → ℕ → ℕ → ℕ → ℕ → ResourceBinding
binding name type dimension slot count flags = record {
  name = name;
  input_type = type;
  return_type = 0;
  dimension = dimension;
  num_samples = 0;
  bind_point = slot;
  bind_count = count;
  flags = record { 0 = flags };
  space = 0;
  id = 0;
}

-- Such a binding whose name is the whole chunk.
abbrev named : Bytes → ℕ → ℕ → ℕ → ℕ → ℕ → Numbered Bytes → Example
named name type dimension slot count flags line = lists name [] (binding (in_chunk 0 (length name)) type dimension slot count flags) line

-- A binding whose name lies there, where the chunk is `chunk` and the text of edits `edit`.
abbrev placed : ℕ → ℕ → ℕ → Numbered Bytes → Example
placed source place n line =
    lists (ascii "chunk") (ascii "edit") (binding (record { source = source; place = place; length = n }) 0 0 0 1 0) line

-- Three scalar values of two, three and four bytes.
abbrev wide : Bytes
wide = 0xc3 ∷ 0xa9 ∷ 0xe2 ∷ 0x82 ∷ 0xac ∷ 0xf0 ∷ 0x9f ∷ 0x98 ∷ 0x80 ∷ []

unfoldable pub listing_examples : List Example
listing_examples =
    -- padding of every column; no flags
    named (ascii "$Globals") 0 0 0 1 0 (Ok (ascii "$Globals             cbuffer      NA       0    1    "))
    -- one flag
    ∷ named (ascii "shadowSampler") 3 0 12 1 0x2 (Ok (ascii "shadowSampler        sampler      NA       12   1     comparisonSampler"))
    -- numbers that are longer than their columns; two flags
    ∷ named (ascii "lights") 2 5 12345 4294967295 0xc (Ok (ascii "lights               texture      2darray  12345 4294967295 texComp0;texComp1"))
    -- "nothing is cut": texts that are longer than their columns; all flags
    ∷ named (ascii "a_name_of_more_than_twenty_bytes") 11 7 1 1 0x1f
    (Ok (ascii "a_name_of_more_than_twenty_bytes uav_rwstructured_with_counter 2dMSarray 1    1     userPacked;comparisonSampler;texComp0;texComp1;unused"))
    -- "Padding counts Unicode scalar values", not bytes
    ∷ named wide 2 4 0 1 0 (Ok (wide ++ ascii "                  texture      2d       0    1    "))
    -- "Codes beyond the tables list as `unknown` and `NA`": the first of them and the last; an empty name
    ∷ named [] 14 12 0 0 0 (Ok (ascii "                     unknown      NA       0    0    "))
    ∷ named (ascii "t") 4294967295 4294967295 0 0 0x10 (Ok (ascii "t                    unknown      NA       0    0     unused"))
    -- "nonzero flags with no named bit as `0x` and lower-case hex"; such flags beside one that has a name
    ∷ named (ascii "hex") 5 1 7 2 0x20 (Ok (ascii "hex                  structured   buf      7    2     0x20"))
    ∷ named (ascii "high") 6 11 7 2 0xffffffe0 (Ok (ascii "high                 uav_rwstructured bufex    7    2     0xffffffe0"))
    ∷ named (ascii "named") 12 9 7 2 0x21 (Ok (ascii "named                rt_acceleration_structure cube     7    2     userPacked"))
    -- names of the chunk and of the edits; "A name out of place or not UTF-8 is 16"
    ∷ placed 0 1 4 (Ok (ascii "hunk                 cbuffer      NA       0    1    "))
    ∷ placed 1 0 4 (Ok (ascii "edit                 cbuffer      NA       0    1    "))
    ∷ placed 1 1 4 (refusal 16)
    ∷ placed 2 0 0 (refusal 16)
    ∷ named (0x80 ∷ []) 0 0 0 1 0 (refusal 16)
    ∷ []
