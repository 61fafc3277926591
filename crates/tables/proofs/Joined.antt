-- Records one after the other: record i of the words of a list is its i-th element's, whatever follows them in the table.
-- The records before it have i * width words, so its own begin there.
use mathlib.Core.Path.{◌≡◌, sym, ap, ◌∙◌}
use mathlib.Core.List.{List, [], ◌∷◌, ◌++◌, append_assoc}
use Prim.Native.Nat.{ℕ, zero, suc, ◌+◌, ◌*◌, ◌/◌, ◌-◌, ◌≤◌, ◌<◌}
use native.Mathlib.Nat.{zero-mul, suc-mul, le-div_iff_mul-le}
use native.Mathlib.Omega.{arith}
use lib.ListN.{length, get_or, replicate, length-append, get_or-append}
use lib.Seq.{get_or-append-add}
use Rattle.tables.specs.Records.{within, record_word, joined}
use Rattle.tables.specs.Tables.{padded}
use Rattle.tables.proofs.Records.{word_inside}
use Rattle.tables.proofs.Rows.{same_words}

module _ {A : Type 0} (width : ℕ) (words : A → List ℕ) (whole : (x : A) → length (words x) ≡ width) where
  pub length_joined : (xs : List A) → length (joined words xs) ≡ length xs * width
  unfolding joined
  length_joined [] = sym (zero-mul width)
  length_joined (x ∷ xs) = omega (arith, length-append (words x) (joined words xs), whole x, length_joined xs, suc-mul (length xs) width)

  word_joined : (xs : List A) (d : A) (more : List ℕ) (i k : ℕ) → k < width → i < length xs
      → get_or (joined words xs ++ more) (i * width + k) 0 ≡ get_or (words (get_or xs i d)) k 0
  unfolding joined
  word_joined [] d more i k h below = absurd (omega arith)
  word_joined (x ∷ xs) d more zero k h below =
      let e : zero * width + k ≡ k = omega (arith, zero-mul width) in
      ap (λ (n : ℕ). get_or (joined words (x ∷ xs) ++ more) n 0) e
      ∙ ap (λ (l : List ℕ). get_or l k 0) (append_assoc (words x) (joined words xs) more)
      ∙ get_or-append (words x) (joined words xs ++ more) 0 k (omega (arith, whole x))
  word_joined (x ∷ xs) d more (suc i) k h below =
      let e : suc i * width + k ≡ length (words x) + (i * width + k) = omega (arith, whole x, suc-mul i width) in
      ap (λ (l : List ℕ). get_or l (suc i * width + k) 0) (append_assoc (words x) (joined words xs) more)
      ∙ ap (λ (n : ℕ). get_or (words x ++ (joined words xs ++ more)) n 0) e
      ∙ get_or-append-add (words x) (joined words xs ++ more) (i * width + k) 0
      ∙ word_joined xs d more i k h (omega arith)

  -- a padded table holds all the records
  module _ (n : ℕ) (xs : List A) where
    pub holds_joined : 0 < width → length xs ≤ length (padded n (joined words xs)) / width
    holds_joined wide =
        (le-div_iff_mul-le wide).1
        (omega (arith, length_joined xs, length-append (joined words xs) (replicate (n - length (joined words xs)) 0)))

    pub record_joined : (d : A) (i k : ℕ) → k < width → i < length xs → record_word width (padded n (joined words xs)) i k ≡ get_or (words (get_or xs i d)) k 0
    record_joined d i k h below =
        word_inside width (padded n (joined words xs)) i k (omega (arith, holds_joined (omega arith)))
        ∙ word_joined xs d (replicate (n - length (joined words xs)) 0) i k h below

    pub words_joined : (d : A) (i : ℕ) → i < length xs → within width (record_word width (padded n (joined words xs)) i)
        ≡ within width (λ k. get_or (words (get_or xs i d)) k 0)
    words_joined d i below =
        same_words width (record_word width (padded n (joined words xs)) i) (λ k. get_or (words (get_or xs i d)) k 0)
        (λ k h. record_joined d i k h below)
