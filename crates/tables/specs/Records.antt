-- The records of the lent tables, as words: one record after the other, each of its table's width.
use Rattle.std.specs.Prelude.{Bool, true, false, List, [], ◌∷◌, ◌++◌, ℕ, ◌+◌, ◌*◌, ◌/◌, ltb, length, get_or}
use Rattle.words.specs.Splice.{splice}
use Rattle.reflection.specs.declared.Text.{Text}
use Rattle.reflection.specs.declared.ResourceBinding.{ResourceBinding}
use Rattle.reflection.specs.declared.CBufferDef.{CBufferDef}
use Rattle.reflection.specs.declared.CBufferVariable.{CBufferVariable}
use Rattle.reflection.specs.declared.TypeDesc.{TypeDesc}
pub use Rattle.reflection.specs.Limits.{binding_width, buffer_width, variable_width, type_width}

-- A binding: its name, then the nine other fields in the order of the Rust's struct.
unfoldable pub binding_words_in_table : ResourceBinding → List ℕ
binding_words_in_table x =
    x.name.source ∷ x.name.place ∷ x.name.length
    ∷ x.input_type ∷ x.return_type ∷ x.dimension ∷ x.num_samples ∷ x.bind_point ∷ x.bind_count ∷ x.flags.0 ∷ x.space ∷ x.id ∷ []

-- A buffer: its name, how many variables it has, its size, flags and type.
unfoldable pub buffer_words_in_table : CBufferDef → List ℕ
buffer_words_in_table x = x.name.source ∷ x.name.place ∷ x.name.length ∷ x.variable_count ∷ x.size ∷ x.flags ∷ x.cb_type ∷ []

-- A variable: its name, offset, size, flags, its default, four slot words.
unfoldable pub variable_words_in_table : CBufferVariable → List ℕ
variable_words_in_table x =
    x.name.source ∷ x.name.place ∷ x.name.length ∷ x.offset ∷ x.size ∷ x.flags.0
    ∷ x.default_value.source ∷ x.default_value.place ∷ x.default_value.length
    ∷ x.texture_start ∷ x.texture_size ∷ x.sampler_start ∷ x.sampler_size ∷ []

-- A type node: its numbers, how many members follow, four extra words, its name, and its name and offset as a member.
unfoldable pub type_words_in_table : TypeDesc → List ℕ
type_words_in_table x =
    x.class ∷ x.var_type ∷ x.rows ∷ x.columns ∷ x.elements ∷ x.member_count ∷ x.extra0 ∷ x.extra1 ∷ x.extra2 ∷ x.extra3
    ∷ x.name.source ∷ x.name.place ∷ x.name.length ∷ x.member_name.source ∷ x.member_name.place ∷ x.member_name.length
    ∷ x.member_offset ∷ []

-- One record after the other.
unfoldable pub joined : {A : Type 0} → (A → List ℕ) → List A → List ℕ
joined words [] = []
joined words (x ∷ xs) = words x ++ joined words xs

-- Whether record i lies whole in a table of that many words.
unfoldable pub holds_record : ℕ → ℕ → ℕ → Bool
holds_record width long i = ltb i (long / width)

-- A table with record i written; a record outside the table is not.
unfoldable pub put_record : ℕ → List ℕ → ℕ → List ℕ → List ℕ
put_record width t i words = elim (holds_record width (length t) i) [ true ↦ splice t (i * width) words | false ↦ t ]

-- Word k of record i; 0 where the record lies outside.
unfoldable pub record_word : ℕ → List ℕ → ℕ → ℕ → ℕ
record_word width t i k = elim (holds_record width (length t) i) [ true ↦ get_or t (i * width + k) 0 | false ↦ 0 ]

-- A record's words, and 0 from its width on: what a row of that width holds.
abbrev pub within : ℕ → (ℕ → ℕ) → ℕ → ℕ
within width word k = elim (ltb k width) [ true ↦ word k | false ↦ 0 ]

-- Record i of each table, by its words.
abbrev pub text_at : (ℕ → ℕ) → ℕ → Text
text_at word k = record { source = word k; place = word (k + 1); length = word (k + 2) }

abbrev pub binding_of : (ℕ → ℕ) → ResourceBinding
binding_of word = record {
  name = text_at word 0;
  input_type = word 3;
  return_type = word 4;
  dimension = word 5;
  num_samples = word 6;
  bind_point = word 7;
  bind_count = word 8;
  flags = record { 0 = word 9 };
  space = word 10;
  id = word 11;
}

abbrev pub buffer_of : (ℕ → ℕ) → CBufferDef
buffer_of word = record { name = text_at word 0; variable_count = word 3; size = word 4; flags = word 5; cb_type = word 6 }

abbrev pub variable_of : (ℕ → ℕ) → CBufferVariable
variable_of word = record {
  name = text_at word 0;
  offset = word 3;
  size = word 4;
  flags = record { 0 = word 5 };
  default_value = text_at word 6;
  texture_start = word 9;
  texture_size = word 10;
  sampler_start = word 11;
  sampler_size = word 12;
}

abbrev pub type_of : (ℕ → ℕ) → TypeDesc
type_of word = record {
  class = word 0;
  var_type = word 1;
  rows = word 2;
  columns = word 3;
  elements = word 4;
  member_count = word 5;
  extra0 = word 6;
  extra1 = word 7;
  extra2 = word 8;
  extra3 = word 9;
  name = text_at word 10;
  member_name = text_at word 13;
  member_offset = word 16;
}

unfoldable pub binding_at : List ℕ → ℕ → ResourceBinding
binding_at t i = binding_of (record_word binding_width t i)

unfoldable pub buffer_at : List ℕ → ℕ → CBufferDef
buffer_at t i = buffer_of (record_word buffer_width t i)

unfoldable pub variable_at : List ℕ → ℕ → CBufferVariable
variable_at t i = variable_of (record_word variable_width t i)

unfoldable pub type_at : List ℕ → ℕ → TypeDesc
type_at t i = type_of (record_word type_width t i)
