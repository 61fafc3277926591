-- Digits filled in from the end of a list: each turn of the loop puts one digit before those that are there, as the definition does.
-- Decimal digits are the hex digits below ten, so one loop serves both bases.
use mathlib.Core.Path.{◌≡◌, refl, sym, ap, ◌∙◌}
use mathlib.Core.List.{List, [], ◌∷◌}
use Prim.Native.Nat.{ℕ, zero, suc, ◌+◌, ◌-◌, ◌/◌, ◌%◌, ◌≤◌, ◌<◌}
use native.Mathlib.Decide.{dec_le}
use native.Mathlib.Nat.{mod-eq_of_lt}
use native.Mathlib.Omega.{arith}
use borrow.Author.Tests.{lt-ltb, le-ltb}
use lib.ListN.{length, set, take, drop, length-set, length-drop}
use lib.Seq.{drop-cons, drop-set-lt, get_or-set_same, drop-length, take_all}
use Rattle.words.specs.Splice.{Put}
use Rattle.text_output.specs.Digits.{digits_before, decimal_digit, hex_digit, decimal, hex}

drop_after_set : (l : List ℕ) (i x : ℕ) → i < length l → drop i (set l i x) ≡ x ∷ drop (suc i) l
drop_after_set l i x h =
    drop-cons (set l i x) i 0 (omega (arith, length-set l i x))
    ∙ ap (λ (d : ℕ). d ∷ drop (suc i) (set l i x)) (get_or-set_same l i x 0 h)
    ∙ ap (λ (r : List ℕ). x ∷ r) (drop-set-lt (suc i) l i x (omega arith))

module _ (digit : ℕ → ℕ) (base : ℕ) where
  pub digits_last : (most n : ℕ) (after : List ℕ) → n < base → digits_before digit base (suc most) n after ≡ digit n ∷ after
  unfolding digits_before
  digits_last most n after h = rw (lt-ltb n base h)

  pub digits_more : (most n : ℕ) (after : List ℕ) → base ≤ n
      → digits_before digit base (suc most) n after ≡ digits_before digit base most (n / base) (digit (n % base) ∷ after)
  unfolding digits_before
  digits_more most n after h = rw (le-ltb n base h)

  -- a turn of the loop, which puts the lowest digit of what is left before those that are there
  module _ (l : List ℕ) (i left x : ℕ) {all : List ℕ} (kept : digits_before digit base i left (drop i l) ≡ all) (some : 0 < i) (fits : i ≤ length l)
      (lowest : x ≡ digit (left % base)) where
    one_more : drop (i - 1) (set l (i - 1) x) ≡ x ∷ drop i l
    one_more =
        let e : suc (i - 1) ≡ i = omega arith in
        drop_after_set l (i - 1) x (omega arith) ∙ ap (λ (k : ℕ). x ∷ drop k l) e

    counted : digits_before digit base (suc (i - 1)) left (drop i l) ≡ all
    counted = let e : suc (i - 1) ≡ i = omega arith in ap (λ (k : ℕ). digits_before digit base k left (drop i l)) e ∙ kept

    pub last_digit : left < base → drop (i - 1) (set l (i - 1) x) ≡ all
    last_digit h =
        one_more
        ∙ ap (λ (d : ℕ). d ∷ drop i l) (lowest ∙ ap digit (mod-eq_of_lt h))
        ∙ sym (digits_last (i - 1) left (drop i l) h)
        ∙ counted

    pub more_digits : base ≤ left → digits_before digit base (i - 1) (left / base) (drop (i - 1) (set l (i - 1) x)) ≡ all
    more_digits h =
        ap (digits_before digit base (i - 1) (left / base)) (one_more ∙ ap (λ (d : ℕ). d ∷ drop i l) lowest)
        ∙ sym (digits_more (i - 1) left (drop i l) h)
        ∙ counted

  -- before the first turn, and after the last where no place is left
  pub no_digit_yet : (l : List ℕ) (n : ℕ) → digits_before digit base (length l) n (drop (length l) l) ≡ digits_before digit base (length l) n []
  no_digit_yet l n = ap (digits_before digit base (length l) n) (drop-length l)

  pub no_place_left : (l : List ℕ) (i left : ℕ) {all : List ℕ} → digits_before digit base i left (drop i l) ≡ all → i ≡ 0 → drop 0 l ≡ all
  unfolding digits_before
  no_place_left l i left kept z = rw z at kept

  pub digits_at_most : (most n : ℕ) (after : List ℕ) → length (digits_before digit base most n after) ≤ most + length after
  unfolding digits_before
  digits_at_most zero n after = omega arith
  digits_at_most (suc most) n after =
      elim (dec_le base n) [
        | yes h ↦ rw (digits_more most n after h) (omega (arith, digits_at_most most (n / base) (digit (n % base) ∷ after)))
        | no h ↦ rw (digits_last most n after (omega arith)) (omega arith)
      ]

-- the part of a list from its first digit on, put at a cursor
pub put_filled : (digits : List ℕ) (start count : ℕ) {lent out text : List ℕ} {at r : ℕ} → length digits ≤ start + count → drop start digits ≡ text
    → Put lent at (take count (drop start digits)) out r → Put lent at text out r
put_filled digits start count h e put =
    let whole : take count (drop start digits) ≡ drop start digits = take_all count (drop start digits) (omega (arith, length-drop start digits)) in
    rw (← e, ← whole) put

hex_decimal_digit : (n : ℕ) → n < 10 → hex_digit n ≡ decimal_digit n
hex_decimal_digit n h = rw (lt-ltb n 10 h)

same_digits : (most n : ℕ) (after : List ℕ) → digits_before hex_digit 10 most n after ≡ digits_before decimal_digit 10 most n after
unfolding digits_before
same_digits zero n after = refl
same_digits (suc most) n after =
    elim (dec_le 10 n) [
      | yes h ↦ digits_more hex_digit 10 most n after h
          ∙ ap (λ (d : ℕ). digits_before hex_digit 10 most (n / 10) (d ∷ after)) (hex_decimal_digit (n % 10) (omega arith))
          ∙ same_digits most (n / 10) (decimal_digit (n % 10) ∷ after)
          ∙ sym (digits_more decimal_digit 10 most n after h)
      | no h ↦ digits_last hex_digit 10 most n after (omega arith)
          ∙ ap (λ (d : ℕ). d ∷ after) (hex_decimal_digit n (omega arith))
          ∙ sym (digits_last decimal_digit 10 most n after (omega arith))
    ]

pub filled_decimal : (n : ℕ) → digits_before hex_digit 10 10 n [] ≡ decimal n
unfolding decimal
filled_decimal n = same_digits 10 n []

pub filled_hex : (n : ℕ) → digits_before hex_digit 16 8 n [] ≡ hex n
unfolding hex
filled_hex n = refl

pub decimal_at_most : (n : ℕ) → length (decimal n) ≤ 10
unfolding decimal
decimal_at_most n = digits_at_most decimal_digit 10 10 n []

pub hex_at_most : (n : ℕ) → length (hex n) ≤ 8
unfolding hex
hex_at_most n = digits_at_most hex_digit 16 8 n []
