-- The parts of a spelling: where the code finds the first byte c, or the first digit, the definitions part the text.
use Rattle.std.proofs.lemmas.List.Sums.{prefix_len-le-length}
use Rattle.std.specs.List.{position_or_len, position}
use Rattle.std.specs.Option.{unwrap_or}
use Rattle.std.specs.Prelude.{Option, None, Some}
use mathlib.Core.Path.{◌≡◌, refl, ap, ◌∙◌}
use mathlib.Core.Bool.{Bool, true, false, not, cond}
use mathlib.Core.List.{List, [], ◌∷◌}
use Prim.Native.Nat.{ℕ, zero, suc, ◌+◌, ◌<◌, ◌≤◌}
use native.Mathlib.Numerals.{add-one}
use native.Mathlib.Omega.{arith}
use borrow.Author.Tests.{ltb-false, eq-eqb, ne_eqb}
use lib.Dec.{eqb, ltb}
use lib.ListN.{length, get_or, take, drop}
use Rattle.tables.specs.Nodes.{◌>>=◌}
use Rattle.spelling_parse.specs.Grammar.{is_digit, after_byte, split_once, without_last, before_digit, from_digit}

-- The first byte c parts a text, at its index i; a text without it is not parted.
split_at_first : (c : ℕ) (text : List ℕ) (i : ℕ) → i < length text → get_or text i 0 ≡ c → ((k : ℕ) → k < i → get_or text k 0 ≡ c → ⊥)
    → split_once c text ≡ Some (take i text, drop (suc i) text)
unfolding split_once
split_at_first c [] i h e f = absurd (omega arith)
split_at_first c (b ∷ bs) zero h e f = rw (eq-eqb b c e)
split_at_first c (b ∷ bs) (suc i) h e f =
    rw (ne_eqb b c (f 0 (omega arith))) (ap (after_byte b) (split_at_first c bs i (omega arith) e (λ k g. f (suc k) (omega arith))))

pub split_absent : (c : ℕ) (text : List ℕ) → ((k : ℕ) → k < length text → get_or text k 0 ≡ c → ⊥) → split_once c text ≡ None
unfolding split_once
split_absent c [] f = refl
split_absent c (b ∷ bs) f = rw (ne_eqb b c (f 0 (omega arith))) (ap (after_byte b) (split_absent c bs (λ k g. f (suc k) (omega arith))))

pub split_found : (c : ℕ) (text : List ℕ) (i : ℕ) → i < length text → get_or text i 0 ≡ c → ((k : ℕ) → k < i → get_or text k 0 ≡ c → ⊥)
    → split_once c text ≡ Some (take i text, drop (i + 1) text)
split_found c text i h e f = split_at_first c text i h e f ∙ rw (add-one i)

-- The base is what stands before the first digit, the dimensions what stands from it on.
first_digit : List ℕ → ℕ
first_digit text = position_or_len is_digit text

one_more : (n : ℕ) → 1 + n ≡ suc n
one_more n = omega arith

before_first_digit : (text : List ℕ) → take (first_digit text) text ≡ before_digit text
unfolding first_digit before_digit
before_first_digit [] = refl
before_first_digit (b ∷ bs) = go (is_digit b) (before_first_digit bs)
  where
    go : (t : Bool) → take (first_digit bs) bs ≡ before_digit bs
        → take (cond (not t) (1 + first_digit bs) 0) (b ∷ bs) ≡ cond t [] (b ∷ before_digit bs)
    go true e = refl
    go false e = rw (one_more (first_digit bs)) (ap (λ (l : List ℕ). b ∷ l) e)

from_first_digit : (text : List ℕ) → drop (first_digit text) text ≡ from_digit text
unfolding first_digit from_digit
from_first_digit [] = refl
from_first_digit (b ∷ bs) = go (is_digit b) (from_first_digit bs)
  where
    go : (t : Bool) → drop (first_digit bs) bs ≡ from_digit bs
        → drop (cond (not t) (1 + first_digit bs) 0) (b ∷ bs) ≡ cond t (b ∷ bs) (from_digit bs)
    go true e = refl
    go false e = rw (one_more (first_digit bs)) e

module _ (text : List ℕ) {found : Option ℕ} (is : found ≡ position is_digit text) where
  at_first_digit : unwrap_or found (length text) ≡ first_digit text
  unfolding first_digit
  at_first_digit = rw is (go (ltb (first_digit text) (length text)) refl)
    where
      go : (t : Bool) → ltb (first_digit text) (length text) ≡ t → unwrap_or (cond t (Some (first_digit text)) None) (length text) ≡ first_digit text
      go true e = refl
      go false e =
          let past : length text ≤ first_digit text = ltb-false (first_digit text) (length text) e in
          omega (arith, prefix_len-le-length (λ b. not (is_digit b)) text)

  pub parted_before : take (unwrap_or found (length text)) text ≡ before_digit text
  parted_before = rw at_first_digit (before_first_digit text)

  pub parted_from : drop (unwrap_or found (length text)) text ≡ from_digit text
  parted_from = rw at_first_digit (from_first_digit text)

-- all but the last byte, at index i
pub without_last_lem : (c : ℕ) (text : List ℕ) (i : ℕ) → length text ≡ suc i
    → without_last c text ≡ cond (eqb (get_or text i 0) c) (Some (take i text)) None
unfolding without_last ◌>>=◌
without_last_lem c [] i e = absurd (omega arith)
without_last_lem c (b ∷ []) zero e = refl
without_last_lem c (b ∷ []) (suc i) e = absurd (omega arith)
without_last_lem c (b ∷ x ∷ xs) zero e = absurd (omega arith)
without_last_lem c (b ∷ x ∷ xs) (suc i) e =
    ap (λ (o : Option (List ℕ)). o >>= (λ others. Some (b ∷ others))) (without_last_lem c (x ∷ xs) i (omega arith))
    ∙ go (eqb (get_or (x ∷ xs) i 0) c)
  where
    go : (t : Bool)
        → (cond t (Some (take i (x ∷ xs))) None >>= (λ others. Some (b ∷ others))) ≡ cond t (Some (take (suc i) (b ∷ x ∷ xs))) None
    go true = refl
    go false = refl
