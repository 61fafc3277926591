-- Vocabulary of internal contracts: no contract of an exported function and no demand cites it.
-- Where names, types, defaults and sections were placed, kept in the scratch until the records that hold the offsets are written, and the words of those
-- records. For variable j its name, type and default. For buffer i its name and where its variables' records begin. For binding i its name.
use Rattle.std.specs.Prelude.{Bool, List, [], ◌∷◌, ◌++◌, ℕ, zero, suc, ◌+◌, ◌*◌, get_or}
use Rattle.reflection.specs.declared.ResourceDef.{ResourceDef as Header}
use Rattle.reflection.specs.Reflection.{is_sm5}
use Rattle.tables.specs.Records.{binding_at, buffer_at, variable_at}
use Rattle.tables.specs.Decode.{records_from, binding_from_table}
use Rattle.reflection.specs.Rd11.{rd11_from_header}
use Rattle.write_spec.specs.Records.{VariableOffsets, Section, words_if, binding_words_in_chunk, rd11_words, header_word_count}
use Rattle.write_texts.specs.Scratch.{variable_offsets_width, buffer_offsets_width, variables_start, buffers_start, bindings_start}
use Rattle.tables.specs.TableReflection.{first_variable, count_at}

unfoldable pub variable_offsets : List ℕ → ℕ → VariableOffsets
variable_offsets s j = record {
  name = get_or s (variables_start + j * variable_offsets_width) 0;
  type = get_or s (variables_start + j * variable_offsets_width + 1) 0;
  default = get_or s (variables_start + j * variable_offsets_width + 2) 0;
}

unfoldable pub buffer_name : List ℕ → ℕ → ℕ
buffer_name s i = get_or s (buffers_start + i * buffer_offsets_width) 0

unfoldable pub section_start : List ℕ → ℕ → ℕ
section_start s i = get_or s (buffers_start + i * buffer_offsets_width + 1) 0

unfoldable pub buffer_section : List ℕ → List ℕ → ℕ → Section
buffer_section buffers s i = record { start = section_start s i; offsets = records_from (variable_offsets s) (first_variable buffers i) (count_at buffers i) }

unfoldable pub binding_name : List ℕ → ℕ → ℕ
binding_name s i = get_or s (bindings_start + i) 0

-- The words of records i to i + n - 1, one record after the other.
unfoldable pub rows_from : (ℕ → List ℕ) → ℕ → ℕ → List ℕ
rows_from row i zero = []
rows_from row i (suc n) = row i ++ rows_from row (suc i) n

-- The words of each record, by its table's record and the offsets in the scratch (proofs/Rows.antt: they are those of what the tables hold).
unfoldable pub variable_row : Bool → List ℕ → List ℕ → ℕ → List ℕ
variable_row sm5 variables s j =
    let v = variable_at variables j in
    let o = variable_offsets s j in
    (o.name ∷ v.offset ∷ v.size ∷ v.flags.0 ∷ o.type ∷ o.default ∷ [])
    ++ words_if sm5 (v.texture_start ∷ v.texture_size ∷ v.sampler_start ∷ v.sampler_size ∷ [])

unfoldable pub buffer_row : List ℕ → List ℕ → ℕ → List ℕ
buffer_row buffers s i =
    let b = buffer_at buffers i in
    buffer_name s i ∷ b.variable_count ∷ section_start s i ∷ b.size ∷ b.flags ∷ b.cb_type ∷ []

unfoldable pub binding_row : Bool → List ℕ → List ℕ → ℕ → List ℕ
binding_row wide bindings s i = binding_words_in_chunk wide (binding_from_table (binding_at bindings i)) (binding_name s i)

unfoldable pub header_row : Header → ℕ → ℕ → List ℕ
header_row h buffers creator =
    h.buffer_count ∷ buffers ∷ h.binding_count ∷ 4 * header_word_count (is_sm5 (rd11_from_header h)) ∷ h.target_version ∷ h.compile_flags ∷
    creator ∷ rd11_words (rd11_from_header h)
