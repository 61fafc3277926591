-- Records of one size, one after the other: one law for every stride of the chunk's records (12, 16, 24, 32, 36, 40 bytes) and for every width of the
-- tables' records (7, 12, 13, 17 words). Record i takes the places from i * width on, so another record's places lie before it or after it.
use mathlib.Core.Path.{◌≡◌, refl, sym, ap, ◌∙◌}
use mathlib.Core.Bool.{Bool, true, false}
use mathlib.Core.List.{List, ◌++◌}
use Prim.Native.Nat.{ℕ, ◌+◌, ◌*◌, ◌≤◌, ◌<◌}
use native.Mathlib.Nat.{add_assoc, add-mul, one-mul, mul-le-mul_right}
use native.Mathlib.Omega.{arith}
use borrow.Author.Tests.{ltb-true, ltb-false}
use lib.Dec.{ltb}
use lib.ListN.{length, get_or, take, drop}
use lib.Seq.{get_or-take, get_or-drop}
use Rattle.words.specs.Words.{word_at}
use Rattle.words.specs.Splice.{splice}
use Rattle.words.proofs.Words.{word_same}
use Rattle.words.proofs.Splice.{take_splice, drop_splice, splice_puts, splice_keeps_before, splice_keeps_after}

-- a word of the chunk's record at `at` is the chunk's word at that place
pub word_of_record : (s : List ℕ) (at stride k : ℕ) → k + 4 ≤ stride → word_at (take stride (drop at s)) k ≡ word_at s (at + k)
word_of_record s at stride k fits =
    word_same (take stride (drop at s)) s k (at + k)
    (λ j h.
    get_or-take stride (drop at s) (k + j) 0 (omega arith)
    ∙ get_or-drop at s (k + j) 0
    ∙ ap (λ (i : ℕ). get_or s i 0) (sym (add_assoc at k j)))

-- a record's end is the next record's place
pub next_record : (i width : ℕ) → (i + 1) * width ≡ i * width + width
next_record i width = omega (arith, add-mul i 1 width, one-mul width)

-- of two records the first ends before the second begins
pub records_apart : (i j width : ℕ) → i < j → i * width + width ≤ j * width
records_apart i j width h =
    let ends : (i + 1) * width ≤ j * width = mul-le-mul_right width (omega arith) in
    omega (arith, next_record i width)

-- record i of a table is written
module _ {ℓ} {A : Type ℓ} (t : List A) (i width : ℕ) (words : List A) (whole : length words ≡ width) where
  -- word k of another record stays, whether or not record i has room
  pub other_record_kept : (j k : ℕ) (d : A) → k < width → (j ≡ i → ⊥) → get_or (splice t (i * width) words) (j * width + k) d ≡ get_or t (j * width + k) d
  other_record_kept j k d inside other = by_order (ltb j i) refl
    where
      by_order : (b : Bool) → ltb j i ≡ b → get_or (splice t (i * width) words) (j * width + k) d ≡ get_or t (j * width + k) d
      by_order true e =
          splice_keeps_before t (i * width) (j * width + k) words d (omega (arith, records_apart j i width (ltb-true j i e)))
      by_order false e =
          let after : i < j = omega (arith, ltb-false j i e) in
          splice_keeps_after t (i * width) (j * width + k) words d (omega (arith, records_apart i j width after))

  module _ (room : i * width + width ≤ length t) where
    fits : i * width + length words ≤ length t
    fits = omega arith

    ends : (i + 1) * width ≡ i * width + length words
    ends = omega (arith, next_record i width)

    -- the records up to i, and those after it
    pub take_record : take ((i + 1) * width) (splice t (i * width) words) ≡ take (i * width) t ++ words
    take_record = ap (λ (n : ℕ). take n (splice t (i * width) words)) ends ∙ take_splice t (i * width) words fits

    pub drop_record : drop ((i + 1) * width) (splice t (i * width) words) ≡ drop ((i + 1) * width) t
    drop_record =
        ap (λ (n : ℕ). drop n (splice t (i * width) words)) ends
        ∙ drop_splice t (i * width) words fits
        ∙ ap (λ (n : ℕ). drop n t) (sym ends)

    -- word k of record i is the one that was written
    pub record_written : (k : ℕ) (d : A) → k < width → get_or (splice t (i * width) words) (i * width + k) d ≡ get_or words k d
    record_written k d h = splice_puts t (i * width) words fits k d (omega arith)
