-- The words that the code puts in an array for a record, as many as the record takes, are the row of that record, since the record was read off the table.
use mathlib.Core.Path.{◌≡◌, refl, ap, sym, ◌∙◌}
use mathlib.Core.Bool.{Bool, true, false}
use mathlib.Core.List.{List, [], ◌∷◌, ◌++◌}
use Prim.Native.Nat.{ℕ, ◌+◌, ◌*◌}
use lib.Dec.{eqb}
use lib.ListN.{get_or, take}
use Rattle.reflection.specs.declared.ResourceDef.{ResourceDef as Header}
use Rattle.reflection.specs.declared.CBufferVariable.{CBufferVariable as VariableRecord}
use Rattle.reflection.specs.declared.CBufferDef.{CBufferDef as BufferRecord}
use Rattle.reflection.specs.declared.ResourceBinding.{ResourceBinding as BindingRecord}
use Rattle.reflection.specs.Reflection.{Rd11, no_rd11, rd11, is_sm5, major_of}
use Rattle.tables.specs.Records.{variable_at, buffer_at, binding_at}
use Rattle.tables.specs.Decode.{binding_from_table}
use Rattle.reflection.specs.Rd11.{rd11_from_header}
use Rattle.reflection.specs.Strides.{rd11_header_size, buffer_stride, variable_stride, type_stride, member_stride}
use Rattle.write_spec.specs.Records.{words_if, binding_words_in_chunk, rd11_words, header_word_count, binding_size, variable_size}
use Rattle.write_texts.specs.Scratch.{variable_offsets_width, buffer_offsets_width, variables_start, buffers_start, bindings_start}
use Rattle.write_tables.specs.Offsets.{variable_offsets, buffer_name, section_start, binding_name, variable_row, buffer_row, binding_row, header_row}

abbrev variable_words : VariableRecord → List ℕ → ℕ → List ℕ
variable_words v s k =
    get_or s k 0 ∷ v.offset ∷ v.size ∷ v.flags.0 ∷ get_or s (k + 1) 0 ∷ get_or s (k + 2) 0
    ∷ v.texture_start ∷ v.texture_size ∷ v.sampler_start ∷ v.sampler_size ∷ []

abbrev buffer_words : BufferRecord → List ℕ → ℕ → List ℕ
buffer_words b s k = get_or s k 0 ∷ b.variable_count ∷ get_or s (k + 1) 0 ∷ b.size ∷ b.flags ∷ b.cb_type ∷ []

abbrev binding_words : BindingRecord → ℕ → List ℕ
binding_words b name =
    name ∷ b.input_type ∷ b.return_type ∷ b.dimension ∷ b.num_samples ∷ b.bind_point ∷ b.bind_count ∷ b.flags.0 ∷ b.space ∷ b.id ∷ []

abbrev header_words : Header → ℕ → ℕ → ℕ → List ℕ
header_words h buffers creator size =
    h.buffer_count ∷ buffers ∷ h.binding_count ∷ 4 * size ∷ h.target_version ∷ h.compile_flags ∷ creator
    ∷ h.rd11.identifier ∷ rd11_header_size ∷ buffer_stride ∷ h.rd11.resource_binding_stride ∷ variable_stride true ∷ type_stride true ∷ member_stride
    ∷ h.rd11.interface_slot_count ∷ []

abbrev header_words_of : Header → ℕ → ℕ → Rd11 → List ℕ
header_words_of h buffers creator x =
    h.buffer_count ∷ buffers ∷ h.binding_count ∷ 4 * header_word_count (is_sm5 x) ∷ h.target_version ∷ h.compile_flags ∷ creator ∷ rd11_words x

abbrev rd11_words_lem : Header → Bool → Rd11
rd11_words_lem h false = no_rd11
rd11_words_lem h true = rd11 h.rd11.identifier h.rd11.resource_binding_stride h.rd11.interface_slot_count

abbrev rd11_by : Header → Bool → Rd11
rd11_by h m = elim m [ true ↦ rd11 h.rd11.identifier h.rd11.resource_binding_stride h.rd11.interface_slot_count | false ↦ no_rd11 ]

-- The RD11 words are there in major 5 and in no other.
pub rd11_is : (h : Header) → rd11_from_header h ≡ rd11_words_lem h (is_sm5 (rd11_from_header h))
unfolding rd11_from_header
rd11_is h = go (eqb (major_of h.target_version) 5)
  where
    go : (m : Bool) → rd11_by h m ≡ rd11_words_lem h (is_sm5 (rd11_by h m))
    go true = refl
    go false = refl

-- The first words of each, by what the record is.
variable_taken : (sm5 : Bool) (v : VariableRecord) (s : List ℕ) (k : ℕ) → take (variable_size sm5) (variable_words v s k)
    ≡ (get_or s k 0 ∷ v.offset ∷ v.size ∷ v.flags.0 ∷ get_or s (k + 1) 0 ∷ get_or s (k + 2) 0 ∷ [])
    ++ words_if sm5 (v.texture_start ∷ v.texture_size ∷ v.sampler_start ∷ v.sampler_size ∷ [])
variable_taken true v s k = refl
variable_taken false v s k = refl

binding_taken : (wide : Bool) (b : BindingRecord) (name : ℕ) → take (binding_size wide) (binding_words b name)
    ≡ binding_words_in_chunk wide (binding_from_table b) name
unfolding binding_words_in_chunk binding_from_table
binding_taken true b name = refl
binding_taken false b name = refl

header_taken : (h : Header) (buffers creator : ℕ) (sm5 : Bool)
    → take (header_word_count sm5) (header_words h buffers creator (header_word_count sm5)) ≡ header_words_of h buffers creator (rd11_words_lem h sm5)
unfolding rd11_words
header_taken h buffers creator true = refl
header_taken h buffers creator false = refl

pub variable_row_is : (variables s : List ℕ) (j : ℕ) (sm5 : Bool) {size : ℕ} {v : VariableRecord} → v ≡ variable_at variables j → size ≡ variable_size sm5
    → take size (variable_words v s (variables_start + j * variable_offsets_width)) ≡ variable_row sm5 variables s j
unfolding variable_row variable_offsets
variable_row_is variables s j sm5 is sized =
    (λ i. take (sized i) (variable_words (is i) s (variables_start + j * variable_offsets_width)))
    ∙ variable_taken sm5 (variable_at variables j) s (variables_start + j * variable_offsets_width)

pub buffer_row_is : (buffers s : List ℕ) (i : ℕ) {b : BufferRecord} → b ≡ buffer_at buffers i
    → buffer_words b s (buffers_start + i * buffer_offsets_width) ≡ buffer_row buffers s i
unfolding buffer_row buffer_name section_start
buffer_row_is buffers s i is = ap (λ (b : BufferRecord). buffer_words b s (buffers_start + i * buffer_offsets_width)) is

pub binding_row_is : (bindings s : List ℕ) (i : ℕ) (wide : Bool) {size : ℕ} {b : BindingRecord} → b ≡ binding_at bindings i → size ≡ binding_size wide
    → take size (binding_words b (get_or s (bindings_start + i) 0)) ≡ binding_row wide bindings s i
unfolding binding_row binding_name
binding_row_is bindings s i wide is sized =
    (λ z. take (sized z) (binding_words (is z) (get_or s (bindings_start + i) 0)))
    ∙ binding_taken wide (binding_at bindings i) (get_or s (bindings_start + i) 0)

pub header_row_is : (h : Header) (buffers creator : ℕ) {sm5 : Bool} {size : ℕ} → sm5 ≡ is_sm5 (rd11_from_header h) → size ≡ header_word_count sm5
    → take size (header_words h buffers creator size) ≡ header_row h buffers creator
unfolding header_row
header_row_is h buffers creator is sized =
    ap (λ (n : ℕ). take n (header_words h buffers creator n)) (sized ∙ ap header_word_count is)
    ∙ header_taken h buffers creator (is_sm5 (rd11_from_header h)) ∙ ap (header_words_of h buffers creator) (sym (rd11_is h))
