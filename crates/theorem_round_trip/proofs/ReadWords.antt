-- Every number that is read is a word: it is a word of the chunk, whose bytes are below 256, or 0.
use Rattle.std.specs.Prelude.{Ok}
use mathlib.Core.Path.{◌≡◌}
use mathlib.Core.Bool.{Bool, true, false}
use mathlib.Core.List.{List, [], ◌∷◌}
use Prim.Native.Nat.{ℕ, zero, suc, ◌+◌, ◌<◌}
use native.Mathlib.Omega.{arith}
use lib.Dec.{eqb}
use lib.ListN.{get_or}
use Rattle.words.specs.Words.{word_at}
use Rattle.words.proofs.Words.{word_bounded}
use Rattle.reflection.specs.Strides.{binding_stride, buffer_stride, variable_stride, member_stride}
use Rattle.reflection.specs.declared.Text.{Text}
use Rattle.reflection.specs.Reflection.{TypeDesc, Members, CBufferVariable, CBufferDef, ResourceBinding, ResourceDef, Rd11, major_of, identifier_of}
use Rattle.reflection.specs.Reflection.{stride_of, slots_of, is_sm5, is_wide}
use Rattle.tables.specs.Nodes.{type_levels}
use Rattle.reflection.specs.Contents.{Bytes, contents}
use Rattle.read_spec.specs.Step.{Room, ReadStep, return, refuse}
use Rattle.read_spec.specs.Read.{read_many, read_members, numbers_from, read_type, read_variable, variable_from_chunk, read_buffer, buffer_from_chunk}
use Rattle.read_spec.specs.Read.{read_binding, binding_from_chunk, read_rd11, read_tables, read_chunk, read}
use Rattle.words.specs.Words.{word_if}
use Rattle.readable.proofs.Leaves.{Leaves, then_leaves, check_leaves, text_leaves, binding_leaves, buffer_leaves, variable_leaves, type_leaves}
use Rattle.readable.proofs.Leaves.{many_leaves, value_left}
use Rattle.theorem_round_trip.specs.RoundTrip.{type_numbers, member_numbers, variable_numbers, binding_numbers, buffer_numbers, EachIsWord, AllWords}
use Rattle.theorem_round_trip.specs.RoundTrip.{BuffersWords, NumbersAreWords}
use Rattle.theorem_round_trip.proofs.HeldWords.{words_append, map_words}

module _ (chunk : Bytes) (bytes : (i : ℕ) → get_or chunk i 0 < 256) where
  word : (at : ℕ) → word_at chunk at < 4294967296
  word at = word_bounded chunk at bytes

  word_if_lem : (long : Bool) (at : ℕ) → word_if long chunk at < 4294967296
  unfolding word_if
  word_if_lem true at = word at
  word_if_lem false at = omega arith

  abbrev TypeWords : TypeDesc Text → Room → Type 0
  TypeWords t r = EachIsWord (type_numbers t)

  abbrev MembersWords : Members Text → Room → Type 0
  MembersWords ms r = EachIsWord (member_numbers ms)

  members_words : (read : ℕ → ReadStep (TypeDesc Text)) → ((at : ℕ) (r : Room) → Leaves TypeWords (read at r)) → (n at : ℕ) (r : Room)
      → Leaves MembersWords (read_members read chunk n at r)
  unfolding read_members return member_numbers EachIsWord
  members_words read h zero at r = tt
  members_words read h (suc n) at r =
      check_leaves MembersWords _ _ _ r (λ inside.
      text_leaves MembersWords _ _ _ r (λ place k named.
      then_leaves TypeWords MembersWords _ _ r (h _ r) (λ t r' type.
      then_leaves MembersWords MembersWords _ _ r' (members_words read h n (at + member_stride) r') (λ ms r'' others.
      (word (at + 8), words_append (type_numbers t) (member_numbers ms) type others)))))

  type_words : (sm5 : Bool) (levels : ℕ) (path : List ℕ) (at : ℕ) (r : Room) → Leaves TypeWords (read_type chunk sm5 levels path at r)
  unfolding read_type numbers_from return refuse type_numbers EachIsWord
  type_words sm5 zero path at r = tt
  type_words sm5 (suc levels) path at r =
      check_leaves TypeWords _ _ _ r (λ fresh.
      type_leaves TypeWords _ r (λ r' taken.
      check_leaves TypeWords _ _ _ r' (λ fits.
      then_leaves MembersWords TypeWords _ _ r' (members_words _ (λ below. type_words sm5 levels (at ∷ path) below) _ _ r') (λ ms r'' members.
      text_leaves TypeWords _ _ _ r'' (λ place k named.
      (word_if_lem sm5 (at + 16), (word_if_lem sm5 (at + 20), (word_if_lem sm5 (at + 24), (word_if_lem sm5 (at + 28), members)))))))))

  abbrev VariableWords : CBufferVariable Text Text → Room → Type 0
  VariableWords v r = EachIsWord (variable_numbers v)

  variable_words : (sm5 : Bool) (at : ℕ) (r : Room) → Leaves VariableWords (read_variable chunk sm5 at r)
  unfolding read_variable variable_from_chunk return variable_numbers EachIsWord
  variable_words sm5 at r =
      variable_leaves VariableWords _ r (λ r' taken.
      check_leaves VariableWords _ _ _ r' (λ fits.
      text_leaves VariableWords _ _ _ r' (λ place k default.
      text_leaves VariableWords _ _ _ r' (λ name-place n named.
      then_leaves TypeWords VariableWords _ _ r' (type_words sm5 type_levels [] _ r') (λ t r'' type. (
        word (at + 4),
        (
          word (at + 8),
          (
            word (at + 12),
            (
              word_if_lem sm5 (at + 24),
              (word_if_lem sm5 (at + 28), (word_if_lem sm5 (at + 32), (word_if_lem sm5 (at + 36), type))),
            ),
          ),
        ),
      ))))))

  variables_words : (sm5 : Bool) (n at : ℕ) (r : Room) → Leaves (λ vs r'. AllWords variable_numbers vs)
      (read_many (read_variable chunk sm5) (variable_stride sm5) n at r)
  unfolding AllWords
  variables_words sm5 n at r =
      many_leaves (λ v r r'. EachIsWord (variable_numbers v)) (λ vs r r'. AllWords variable_numbers vs) (λ r. tt) (λ v vs r r' r'' one others. (one, others))
      (read_variable chunk sm5) (variable_words sm5) (variable_stride sm5) n at r

  abbrev BufferWords : CBufferDef Text Text → Room → Type 0
  BufferWords b r = EachIsWord (buffer_numbers b) × AllWords variable_numbers b.variables

  buffer_words : (sm5 : Bool) (at : ℕ) (r : Room) → Leaves BufferWords (read_buffer chunk sm5 at r)
  unfolding read_buffer buffer_from_chunk return buffer_numbers EachIsWord
  buffer_words sm5 at r =
      buffer_leaves BufferWords _ r (λ r' taken.
      check_leaves BufferWords _ _ _ r' (λ fits.
      then_leaves (λ vs r''. AllWords variable_numbers vs) BufferWords _ _ r' (variables_words sm5 _ _ r') (λ vs r'' variables.
      text_leaves BufferWords _ _ _ r'' (λ place k named.
      ((word (at + 12), (word (at + 16), (word (at + 20), tt))), variables)))))

  buffers_words : (sm5 : Bool) (n at : ℕ) (r : Room) → Leaves (λ bs r'. BuffersWords bs) (read_many (read_buffer chunk sm5) buffer_stride n at r)
  unfolding BuffersWords
  buffers_words sm5 n at r =
      many_leaves (λ b r r'. BufferWords b r') (λ bs r r'. BuffersWords bs) (λ r. tt) (λ b bs r r' r'' one others. (one.0, (one.1, others)))
      (read_buffer chunk sm5) (buffer_words sm5) buffer_stride n at r

  abbrev BindingWords : ResourceBinding Text → Room → Type 0
  BindingWords b r = EachIsWord (binding_numbers b)

  binding_words : (wide : Bool) (at : ℕ) (r : Room) → Leaves BindingWords (read_binding chunk wide at r)
  unfolding read_binding binding_from_chunk return binding_numbers EachIsWord
  binding_words wide at r =
      binding_leaves BindingWords _ r (λ r' taken.
      check_leaves BindingWords _ _ _ r' (λ fits.
      check_leaves BindingWords _ _ _ r' (λ input_type.
      check_leaves BindingWords _ _ _ r' (λ dimension.
      check_leaves BindingWords _ _ _ r' (λ flags.
      text_leaves BindingWords _ _ _ r' (λ place k named. (
        word (at + 4),
        (
          word (at + 8),
          (
            word (at + 12),
            (
              word (at + 16),
              (word (at + 20), (word (at + 24), (word (at + 28), (word_if_lem wide (at + 32), (word_if_lem wide (at + 36), tt))))),
            ),
          ),
        ),
      )))))))

  bindings_words : (wide : Bool) (n at : ℕ) (r : Room) → Leaves (λ bs r'. AllWords binding_numbers bs)
      (read_many (read_binding chunk wide) (binding_stride wide) n at r)
  unfolding AllWords
  bindings_words wide n at r =
      many_leaves (λ b r r'. EachIsWord (binding_numbers b)) (λ bs r r'. AllWords binding_numbers bs) (λ r. tt) (λ b bs r r' r'' one others. (one, others))
      (read_binding chunk wide) (binding_words wide) (binding_stride wide) n at r

  abbrev Rd11Words : Rd11 → Room → Type 0
  Rd11Words words r = EachIsWord (identifier_of words ∷ stride_of words ∷ slots_of words ∷ [])

  rd11_words_lem : (five : Bool) (r : Room) → Leaves Rd11Words (read_rd11 chunk five r)
  unfolding read_rd11 return EachIsWord
  rd11_words_lem true r = check_leaves Rd11Words _ _ _ r (λ long. check_leaves Rd11Words _ _ _ r (λ allowed. (word 28, (word 40, (word 56, tt)))))
  rd11_words_lem false r = (omega arith, (omega arith, (omega arith, tt)))

  abbrev DefWords : ResourceDef Text Text → Room → Type 0
  DefWords d r = NumbersAreWords d

  tables_words : (creator : Text) (words : Rd11) → EachIsWord (identifier_of words ∷ stride_of words ∷ slots_of words ∷ []) → (r : Room)
      → Leaves DefWords (read_tables chunk creator words r)
  unfolding read_tables return EachIsWord
  tables_words creator words three r =
      then_leaves (λ bs r'. AllWords binding_numbers bs) DefWords _ _ r (bindings_words (is_wide words) _ _ r) (λ bs r' bindings.
      then_leaves (λ fs r''. BuffersWords fs) DefWords _ _ r' (buffers_words (is_sm5 words) _ _ r') (λ fs r'' buffers.
      record { header = (word 16, (word 20, three)); bindings = bindings; buffers = buffers }))

  chunk_words : (r : Room) → Leaves DefWords (read_chunk chunk r)
  unfolding read_chunk
  chunk_words r =
      check_leaves DefWords _ _ _ r (λ long.
      check_leaves DefWords _ _ _ r (λ short.
      check_leaves DefWords _ _ _ r (λ known.
      text_leaves DefWords _ _ _ r (λ place k named.
      then_leaves Rd11Words DefWords _ _ r (rd11_words_lem (eqb (major_of (word_at chunk 16)) 5) r) (λ words r' three. tables_words _ words three r')))))

  -- What a chunk of bytes reads as, in whatever room.
  module _ (room : Room) (d : ResourceDef Text Text) (reads : read room chunk ≡ Ok d) where
    pub read_words : NumbersAreWords d
    unfolding read
    read_words = (value_left DefWords (read_chunk chunk room) d (chunk_words room) reads).1

    pub read_contents_words : (edits : Bytes) → NumbersAreWords (contents chunk edits d)
    unfolding contents
    read_contents_words edits = map_words _ _ d read_words
