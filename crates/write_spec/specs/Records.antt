-- The words of each record of a chunk, with the offsets that it holds: document 01, "Walk order" and "Canonical form".
use Rattle.std.specs.Prelude.{Bool, true, false, List, [], ◌∷◌, ◌++◌, ℕ, ◌+◌, ◌*◌, ◌/◌, length}
use Rattle.reflection.specs.Strides.{header_size, rd11_header_size, binding_stride, buffer_stride, variable_stride, type_stride, member_stride}
use Rattle.reflection.specs.Reflection.{TypeNumbers, CBufferVariable, CBufferDef, ResourceBinding, ResourceDef, Rd11, no_rd11, rd11, is_sm5}

-- Two numbers of 16 bits in a word, the first in the lower half.
unfoldable pub halves : ℕ → ℕ → ℕ
halves low high = low + high * 65536

-- Only the longer kind of record has these words.
abbrev pub words_if : Bool → List ℕ → List ℕ
words_if false ws = []
words_if true ws = ws

-- How many words a header has, a binding, a buffer and a variable.
abbrev pub header_word_count : Bool → ℕ
header_word_count false = header_size / 4
header_word_count true = rd11_header_size / 4

abbrev pub binding_size : Bool → ℕ
binding_size wide = binding_stride wide / 4

abbrev pub buffer_size : ℕ
buffer_size = buffer_stride / 4

abbrev pub variable_size : Bool → ℕ
variable_size sm5 = variable_stride sm5 / 4

-- A type descriptor: how many members, where their records lie, where its name lies.
unfoldable pub type_words_in_chunk : Bool → TypeNumbers → ℕ → ℕ → ℕ → List ℕ
type_words_in_chunk sm5 k members memberOffset nameOffset =
    (halves k.class k.var_type ∷ halves k.rows k.columns ∷ halves k.elements members ∷ memberOffset ∷ [])
    ++ words_if sm5 (k.extra0 ∷ k.extra1 ∷ k.extra2 ∷ k.extra3 ∷ nameOffset ∷ [])

-- Where a variable's name, type and default lie.
pub record VariableOffsets : Type 0 where
  pub name : ℕ
  pub type : ℕ
  pub default : ℕ

unfoldable pub variable_words_in_chunk : {N D : Type 0} → Bool → CBufferVariable N D → VariableOffsets → List ℕ
variable_words_in_chunk sm5 v o =
    (o.name ∷ v.offset ∷ v.size ∷ v.flags ∷ o.type ∷ o.default ∷ [])
    ++ words_if sm5 (v.texture_start ∷ v.texture_size ∷ v.sampler_start ∷ v.sampler_size ∷ [])

-- Where a buffer's variables lie, and theirs.
pub record Section : Type 0 where
  pub start : ℕ
  pub offsets : List VariableOffsets

unfoldable pub buffer_words_in_chunk : {N D : Type 0} → CBufferDef N D → ℕ × Section → List ℕ
buffer_words_in_chunk b o = o.0 ∷ length b.variables ∷ o.1.start ∷ b.size ∷ b.flags ∷ b.cb_type ∷ []

unfoldable pub binding_words_in_chunk : {N : Type 0} → Bool → ResourceBinding N → ℕ → List ℕ
binding_words_in_chunk wide b o =
    (o ∷ b.input_type ∷ b.return_type ∷ b.dimension ∷ b.num_samples ∷ b.bind_point ∷ b.bind_count ∷ b.flags ∷ [])
    ++ words_if wide (b.space ∷ b.id ∷ [])

-- The RD11 words of major 5: the identifier, the stride of bindings and the slots are the reflection's own, the others the sizes of header and records.
unfoldable pub rd11_words : Rd11 → List ℕ
rd11_words no_rd11 = []
rd11_words (rd11 identifier stride slots) =
    identifier ∷ rd11_header_size ∷ buffer_stride ∷ stride ∷ variable_stride true ∷ type_stride true ∷ member_stride ∷ slots ∷ []

-- Where the buffers' records lie (0 without buffers), what they hold, and where the creator lies.
pub record BodyOffsets : Type 0 where
  pub buffers : ℕ
  pub sections : List (ℕ × Section)
  pub creator : ℕ

-- The bindings lie right after the header, even where there are none.
unfoldable pub header_words_in_chunk : {N D : Type 0} → ResourceDef N D → BodyOffsets → List ℕ
header_words_in_chunk r o =
    length r.constant_buffers ∷ o.buffers ∷ length r.bindings ∷ 4 * header_word_count (is_sm5 r.rd11) ∷ r.target_version ∷ r.compile_flags ∷ o.creator
    ∷ rd11_words r.rd11

-- A row for each record.
unfoldable pub rows : {A B C : Type 0} → (A → B → List C) → List A → List B → List C
rows row [] os = []
rows row (x ∷ xs) [] = []
rows row (x ∷ xs) (o ∷ os) = row x o ++ rows row xs os
