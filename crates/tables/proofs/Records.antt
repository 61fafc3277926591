-- Records of a fixed width in a table of words: what is written as record i is read there, and no other record changes.
-- One law over the width and the words serves the four tables: a record that lies whole in the table begins at i * width, and two records share no word.
use mathlib.Core.Path.{◌≡◌, refl, sym, ap, ◌∙◌}
use mathlib.Core.List.{List, append_assoc}
use Prim.Native.Nat.{ℕ, zero, suc, ◌+◌, ◌*◌, ◌/◌, ◌≤◌, ◌<◌}
use native.Mathlib.Nat.{mul-le-mul_right, div-mul-le_self, suc-mul, zero-mul}
use native.Mathlib.Decide.{dec_lt}
use native.Mathlib.Omega.{arith}
use borrow.Author.Tests.{lt-ltb, le-ltb}
use lib.ListN.{length, get_or, take, drop, replicate, length-drop, length-replicate, get_or-replicate, get_or-eq_default}
use lib.Seq.{length-take-le, get_or-take, get_or-drop}
use Rattle.std.proofs.lemmas.List.{drop-drop}
use Rattle.std.specs.Simd.{first_chunks}
use Rattle.words.specs.Splice.{splice}
use borrow.Rule.Slice.PartMut.{put_mid}
use Rattle.std.proofs.lemmas.Slice.{put_mid-paste}
use Rattle.std.proofs.lemmas.List.Edits.{paste_all}
use Rattle.words.proofs.Splice.{length_splice, splice_eq}
use Rattle.words.proofs.Records.{record_written, other_record_kept}
use Rattle.tables.specs.Records.{holds_record, put_record, record_word, within}

-- a record that lies whole in the table ends no later than the table
pub record_inside : (width long i : ℕ) → i < long / width → i * width + width ≤ long
record_inside width long i h = omega (arith, mul-le-mul_right width h, div-mul-le_self long width, suc-mul i width)

-- a record inside is written over the table, and a record outside is not written
module _ (width : ℕ) (t : List ℕ) (i : ℕ) (words : List ℕ) where
  pub put_inside : i < length t / width → put_record width t i words ≡ splice t (i * width) words
  unfolding put_record holds_record
  put_inside h = rw (put_record, holds_record, lt-ltb i (length t / width) h)

  pub put_outside : length t / width ≤ i → put_record width t i words ≡ t
  unfolding put_record holds_record
  put_outside h = rw (put_record, holds_record, le-ltb i (length t / width) h)

-- a record that is copied into its place is written there
pub put_copied : (width : ℕ) (t : List ℕ) (i k : ℕ) (words : List ℕ) → k ≡ length words → k ≡ width → i < length t / width
    → put_mid (i * width) k t words ≡ put_record width t i words
put_copied width t i k words e whole inside =
    let there : i * width + k ≤ length t = omega (arith, record_inside width (length t) i inside) in
    grind (
      arith,
      put_mid-paste (i * width) k t words words k refl refl e,
      paste_all t (i * width) words k e,
      append_assoc (take (i * width) t) words (drop (i * width + k) t),
      splice_eq t (i * width) words (omega (arith, there, e)),
    )
    ∙ sym (put_inside width t i words inside)

-- a word of a record inside, and of one outside
module _ (width : ℕ) (t : List ℕ) (i k : ℕ) where
  pub word_inside : i < length t / width → record_word width t i k ≡ get_or t (i * width + k) 0
  unfolding record_word holds_record
  word_inside h = rw (record_word, holds_record, lt-ltb i (length t / width) h)

  pub word_outside : length t / width ≤ i → record_word width t i k ≡ 0
  unfolding record_word holds_record
  word_outside h = rw (record_word, holds_record, le-ltb i (length t / width) h)

module _ (width : ℕ) (t : List ℕ) (i : ℕ) (words : List ℕ) (whole : length words ≡ width) where
  -- what is written as record i is read there
  pub record_put : (k : ℕ) → k < width → i < length t / width → record_word width (put_record width t i words) i k ≡ get_or words k 0
  record_put k h inside =
      let there : i < length (splice t (i * width) words) / width = rw length_splice inside in
      ap (λ (w : List ℕ). record_word width w i k) (put_inside width t i words inside)
      ∙ word_inside width (splice t (i * width) words) i k there
      ∙ record_written t i width words whole (record_inside width (length t) i inside) k 0 h

  -- another record is as before
  pub record_put_other : (j k : ℕ) → k < width → (j ≡ i → ⊥) → record_word width (put_record width t i words) j k ≡ record_word width t j k
  record_put_other j k h other =
      elim (dec_lt i (length t / width)) [
        | yes inside ↦ ap (λ (w : List ℕ). record_word width w j k) (put_inside width t i words inside) ∙ elim (dec_lt j (length t / width)) [
          | yes there ↦ word_inside width (splice t (i * width) words) j k (rw length_splice there)
              ∙ other_record_kept t i width words whole j k 0 h other
              ∙ sym (word_inside width t j k there)
          | no past ↦ word_outside width (splice t (i * width) words) j k (rw length_splice (omega arith)) ∙ sym (word_outside width t j k (omega arith))
        ]
        | no outside ↦ ap (λ (w : List ℕ). record_word width w j k) (put_outside width t i words (omega arith))
      ]

-- rows that are equal word for word
pub same_row : (f g : ℕ → ℕ) → ((k : ℕ) → f k ≡ g k) → f ≡ g
same_row f g e i k = e k i

-- row i of a table's rows is the table's part of that width from i * width on
pub row_of_table : (width n : ℕ) (t : List ℕ) (i : ℕ) (d : List ℕ) → i < n → get_or (first_chunks width n t) i d ≡ take width (drop (i * width) t)
row_of_table width zero t i d h = absurd (omega arith)
row_of_table width (suc n) t zero d h = ap (λ (at : ℕ). take width (drop at t)) (sym (zero-mul width))
row_of_table width (suc n) t (suc i) d h =
    row_of_table width n (drop width t) i d (omega arith)
    ∙ ap (take width) (drop-drop (i * width) width t ∙ ap (λ (at : ℕ). drop at t) (omega (arith, suc-mul i width)))

-- the words of that row, and of the row of zeros that stands for a record outside
module _ (width : ℕ) (t : List ℕ) (i : ℕ) where
  pub row_inside : (rows : List (List ℕ)) (row d : List ℕ) → rows ≡ first_chunks width (length t / width) t → row ≡ get_or rows i d
      → i < length t / width → (k : ℕ) → get_or row k 0 ≡ within width (record_word width t i) k
  row_inside rows row d are is inside k =
      let ends : i * width + width ≤ length t = record_inside width (length t) i inside in
      let part : row ≡ take width (drop (i * width) t) =
      is ∙ ap (λ (r : List (List ℕ)). get_or r i d) are ∙ row_of_table width (length t / width) t i d inside
      in
      let whole : length row ≡ width =
      ap length part ∙ length-take-le width (drop (i * width) t) (omega (arith, length-drop (i * width) t))
      in
      elim (dec_lt k width) [
        | yes h ↦ rw (within, lt-ltb k width h) (ap (λ (w : List ℕ). get_or w k 0) part ∙ get_or-take width (drop (i * width) t) k 0 h
            ∙ get_or-drop (i * width) t k 0 ∙ sym (word_inside width t i k inside))
        | no h ↦ rw (within, le-ltb k width (omega arith)) (get_or-eq_default row 0 (omega arith))
      ]

  pub row_outside : length t / width ≤ i → (k : ℕ) → get_or (replicate width 0) k 0 ≡ within width (record_word width t i) k
  row_outside past k =
      elim (dec_lt k width) [
        | yes h ↦ rw (within, lt-ltb k width h) (get_or-replicate width k 0 0 h ∙ sym (word_outside width t i k past))
        | no h ↦ rw (within, le-ltb k width (omega arith)) (get_or-eq_default (replicate width 0) 0 (omega (arith, length-replicate {A = ℕ} width 0)))
      ]
