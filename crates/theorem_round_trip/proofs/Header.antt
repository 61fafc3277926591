-- The header's words read as what was written there, and all that it points to is there: the bindings, the buffers and the creator.
use mathlib.Core.Path.{◌≡◌, refl, ap, ◌∙◌}
use mathlib.Core.List.{List, [], ◌∷◌}
use mathlib.Core.Bool.{Bool, true, false, ◌||◌}
use Prim.Native.Nat.{ℕ, ◌+◌, ◌*◌, ◌<◌, ◌≤◌}
use native.Mathlib.Omega.{arith}
use borrow.Author.Tests.{leb-true, eqb-true}
use lib.Dec.{eqb, leb}
use lib.ListN.{length, get_or, length-map}
use Rattle.words.specs.Words.{word_at}
use Rattle.text.proofs.Bools.{and-true}
use Rattle.reflection.specs.Limits.{chunk_limit, binding_room, buffer_room}
use Rattle.reflection.specs.Strides.{rd11_header_size, buffer_stride, variable_stride, type_stride, member_stride}
use Rattle.reflection.specs.Rd11.{rd11_allowed}
use Rattle.reflection.specs.Reflection.{Rd11, no_rd11, rd11, ResourceDef, major_of, is_sm5, is_wide, identifier_of, stride_of, slots_of}
use Rattle.reflection.specs.Contents.{Bytes}
use Rattle.read_spec.specs.Read.{chunk_rd11_allowed, read_rd11}
use Rattle.readable.specs.Readable.{version_readable, room_kept}
use Rattle.write_spec.specs.Step.{Cell}
use Rattle.write_spec.specs.Records.{rd11_words, BodyOffsets, header_words_in_chunk, header_word_count}
use Rattle.write_spec.specs.Layout.{place_body}
use Rattle.write_spec.specs.Canonical.{bytes_facts, fill}
use Rattle.theorem_round_trip.specs.RoundTrip.{EachIsWord}
use Rattle.theorem_round_trip.proofs.Holds.{bytes_of, WordsAt, words_fit}
use Rattle.theorem_round_trip.proofs.Rooms.{no_cost, Takes, free_then, return_takes, returns, check_takes, leb_takes}
use Rattle.theorem_round_trip.proofs.Texts.{NameAt}
use Rattle.theorem_round_trip.proofs.Steps.{Leaves, bind_leaves, return_leaves, pad_leaves}
use Rattle.theorem_round_trip.proofs.Names.{place_inner_name_leaves}
use Rattle.theorem_round_trip.proofs.Conditions.{Readable}
use Rattle.theorem_round_trip.proofs.Bindings.{BindingsAt, bindings_leave}
use Rattle.theorem_round_trip.proofs.Buffers.{BuffersAt, place_buffers_leaves}

-- What the body's offsets lead to; the bindings' records stand where it starts.
pub record BodyAt (cells : List (Cell Bytes Bytes)) (r : ResourceDef Bytes Bytes) (at : ℕ) (o : BodyOffsets) : Type 0 where
  pub names : List ℕ
  pub bindings : BindingsAt cells (is_wide r.rd11) r.bindings at names
  pub buffers : BuffersAt cells (is_sm5 r.rd11) r.constant_buffers (o.buffers, o.sections)
  pub creator : NameAt cells o.creator r.creator

pub place_body_leaves : (cells : List (Cell Bytes Bytes)) → length cells ≤ chunk_limit → (r : ResourceDef Bytes Bytes) → Readable r → (at : ℕ)
    → Leaves cells (is_sm5 r.rd11) at (place_body bytes_facts r) (λ o at'. BodyAt cells r at o)
unfolding place_body
place_body_leaves cells short r fine at =
    bind_leaves (bindings_leave cells short (is_wide r.rd11) (is_sm5 r.rd11) r.bindings fine.bindings at) λ names at₁ le₁ bindings.
    bind_leaves (place_buffers_leaves cells short (is_sm5 r.rd11) r.constant_buffers fine.buffers at₁) λ buffers at₂ le₂ placed.
    bind_leaves (place_inner_name_leaves cells (is_sm5 r.rd11) at₂ r.creator fine.creator) λ creator at₃ le₃ named.
    bind_leaves (pad_leaves at₃) λ _ at₄ le₄ _.
    return_leaves _ (record { names = names; bindings = bindings; buffers = placed; creator = named })

-- The header's length.
pub header_size_lem : (sm5 : Bool) → (header_word_count false ≤ header_word_count sm5) × (header_word_count sm5 ≤ header_word_count true)
header_size_lem false = (omega arith, omega arith)
header_size_lem true = (omega arith, omega arith)

length_rd11_words : (words : Rd11) → header_word_count false + length (rd11_words words) ≡ header_word_count (is_sm5 words)
unfolding rd11_words
length_rd11_words no_rd11 = refl
length_rd11_words (rd11 identifier stride slots) = refl

pub length_header_words : (r : ResourceDef Bytes Bytes) (o : BodyOffsets) → length (header_words_in_chunk r o) ≡ header_word_count (is_sm5 r.rd11)
unfolding header_words_in_chunk
length_header_words r o = omega (arith, length_rd11_words r.rd11)

-- The header's numbers are words.
rd11_small : (words : Rd11) → EachIsWord (identifier_of words ∷ stride_of words ∷ slots_of words ∷ []) → EachIsWord (rd11_words words)
unfolding rd11_words EachIsWord
rd11_small no_rd11 h = tt
rd11_small (rd11 identifier stride slots) h = (h.0, (omega arith, (omega arith, (h.1.0, (omega arith, (omega arith, (omega arith, (h.1.1.0, tt))))))))

pub header_small : (cells : List (Cell Bytes Bytes)) → length cells ≤ chunk_limit → (r : ResourceDef Bytes Bytes) (at : ℕ) (o : BodyOffsets)
    → Readable r → BodyAt cells r at o → EachIsWord (header_words_in_chunk r o)
unfolding header_words_in_chunk EachIsWord room_kept
header_small cells short r at o fine there =
    let (bindings, e₁) = and-true (leb (length r.bindings) binding_room) _ fine.room in
    let (buffers, _) = and-true (leb (length r.constant_buffers) buffer_room) _ e₁ in (
      omega (arith, leb-true (length r.constant_buffers) buffer_room buffers),
      (
        omega (arith, words_fit cells o.buffers _ there.buffers.stand),
        (
          omega (arith, leb-true (length r.bindings) binding_room bindings),
          (
            omega (arith, (header_size_lem (is_sm5 r.rd11)).1),
            (
              fine.words.0,
              (fine.words.1.0, (omega (arith, there.creator.below_end), rd11_small r.rd11 fine.words.1.1)),
            ),
          ),
        ),
      ),
    )

-- The version's tests.
pub major_known : (words : Rd11) (version : ℕ) → version_readable version words ≡ true → (eqb (major_of version) 4 || eqb (major_of version) 5) ≡ true
unfolding version_readable
major_known no_rd11 version e = ap (λ (m : ℕ). eqb m 4 || eqb m 5) (eqb-true (major_of version) 4 e)
major_known (rd11 identifier stride slots) version e =
    ap (λ (m : ℕ). eqb m 4 || eqb m 5) (eqb-true (major_of version) 5 (and-true (eqb (major_of version) 5) _ e).0)

pub major_five : (words : Rd11) (version : ℕ) → version_readable version words ≡ true → eqb (major_of version) 5 ≡ is_sm5 words
unfolding version_readable
major_five no_rd11 version e = ap (λ (m : ℕ). eqb m 5) (eqb-true (major_of version) 4 e)
major_five (rd11 identifier stride slots) version e = (and-true (eqb (major_of version) 5) _ e).0

-- The test for the RD11 words that are allowed, of words with the strides that are written.
rd11_allowed_lem : (s : Bytes) (version identifier stride slots : ℕ) → version_readable version (rd11 identifier stride slots) ≡ true → word_at s 28 ≡ identifier
    → word_at s 32 ≡ rd11_header_size → word_at s 36 ≡ buffer_stride → word_at s 40 ≡ stride → word_at s 44 ≡ variable_stride true
    → word_at s 48 ≡ type_stride true → word_at s 52 ≡ member_stride
    → chunk_rd11_allowed s ≡ true
unfolding version_readable
rd11_allowed_lem s version identifier stride slots fine w₂₈ w₃₂ w₃₆ w₄₀ w₄₄ w₄₈ w₅₂ =
    (λ i. rd11_allowed (w₂₈ i) (w₃₂ i) (w₃₆ i) (w₄₀ i) (w₄₄ i) (w₄₈ i) (w₅₂ i)) ∙ (and-true (eqb (major_of version) 5) _ fine).1

-- The RD11 words, which stand after the header's first seven.
pub rd11_read : (cells : List (Cell Bytes Bytes)) (words : Rd11) (version a b c d e f g : ℕ) → version_readable version words ≡ true
    → ((j : ℕ) → j < length (a ∷ b ∷ c ∷ d ∷ e ∷ f ∷ g ∷ rd11_words words)
    → word_at (bytes_of cells) (0 + 4 * j) ≡ get_or (a ∷ b ∷ c ∷ d ∷ e ∷ f ∷ g ∷ rd11_words words) j 0)
    → WordsAt cells 0 (a ∷ b ∷ c ∷ d ∷ e ∷ f ∷ g ∷ rd11_words words) → Takes (read_rd11 (bytes_of cells) (is_sm5 words)) no_cost words
unfolding read_rd11 rd11_words
rd11_read cells no_rd11 version a b c d e f g fine word h = return_takes no_rd11
rd11_read cells (rd11 identifier stride slots) version a b c d e f g fine word h =
    free_then _ _ (leb_takes rd11_header_size (length (bytes_of cells)) _ (omega (arith, length-map cells fill, words_fit cells 0 _ h)))
    (free_then _ _ (check_takes _ _ (rd11_allowed_lem (bytes_of cells) version identifier stride slots fine
    (word 7 (omega arith)) (word 8 (omega arith)) (word 9 (omega arith)) (word 10 (omega arith)) (word 11 (omega arith)) (word 12 (omega arith))
    (word 13 (omega arith))))
    (returns _ (rd11 identifier stride slots) (λ i. rd11 (word 7 (omega arith) i) (word 10 (omega arith) i) (word 14 (omega arith) i))))
