-- A number below 65,536 in decimal reads as that number: it is one digit or more and nothing else, and each digit put before the others is what the
-- reader takes up first.
use Rattle.std.specs.Prelude.{Some}
use mathlib.Core.Path.{◌≡◌, ap, ◌∙◌}
use mathlib.Core.Bool.{true}
use mathlib.Core.List.{List, [], ◌∷◌, ◌++◌}
use Prim.Native.Nat.{ℕ, zero, suc, ◌+◌, ◌-◌, ◌*◌, ◌/◌, ◌%◌, ◌^◌, ◌≤◌, ◌<◌}
use native.Mathlib.Decide.{dec_le}
use native.Mathlib.Nat.{div-lt_iff_lt-mul, pow-suc}
use native.Mathlib.Omega.{arith}
use borrow.Author.Tests.{lt-ltb, le-leb, ne_eqb}
use lib.ListN.{length}
use Rattle.reflection.specs.Limits.{u16_limit}
use Rattle.tables.specs.Nodes.{◌>>=◌}
use Rattle.text_output.specs.Digits.{digits_before, decimal_digit, decimal}
use Rattle.text_output.proofs.Digits.{digits_last, digits_more}
use Rattle.spelling_parse.specs.Grammar.{is_digit, digits_value, number}

-- every byte of a text has a property
abbrev pub Each : (ℕ → Type 0) → List ℕ → Type 0
Each P [] = Unit {0}
Each P (b ∷ bs) = P b × Each P bs

pub each_append : (P : ℕ → Type 0) (xs ys : List ℕ) → Each P xs → Each P ys → Each P (xs ++ ys)
each_append P [] ys a b = b
each_append P (x ∷ xs) ys a b = (a.0, each_append P xs ys a.1 b)

pub each_so : (P Q : ℕ → Type 0) → ((b : ℕ) → P b → Q b) → (xs : List ℕ) → Each P xs → Each Q xs
each_so P Q f [] a = tt
each_so P Q f (x ∷ xs) a = (f x a.0, each_so P Q f xs a.1)

abbrev pub Digit : ℕ → Type 0
Digit b = (48 ≤ b) × (b ≤ 57)

pub digit_is : (b : ℕ) → Digit b → is_digit b ≡ true
digit_is b d = rw (le-leb 48 b d.0, le-leb b 57 d.1)

digits_are : (most n : ℕ) (after : List ℕ) → Each Digit after → Each Digit (digits_before decimal_digit 10 most n after)
unfolding digits_before
digits_are zero n after a = a
digits_are (suc most) n after a =
    elim (dec_le 10 n) [
      | yes h ↦ rw (digits_more decimal_digit 10 most n after h) (digits_are most (n / 10) (decimal_digit (n % 10) ∷ after) ((omega arith, omega arith), a))
      | no h ↦ rw (digits_last decimal_digit 10 most n after (omega arith)) ((omega arith, omega arith), a)
    ]

digits_before_others : (most n : ℕ) (after : List ℕ) → length after ≤ length (digits_before decimal_digit 10 most n after)
unfolding digits_before
digits_before_others zero n after = omega arith
digits_before_others (suc most) n after =
    elim (dec_le 10 n) [
      | yes h ↦ rw (digits_more decimal_digit 10 most n after h) (omega (arith, digits_before_others most (n / 10) (decimal_digit (n % 10) ∷ after)))
      | no h ↦ rw (digits_last decimal_digit 10 most n after (omega arith)) (omega arith)
    ]

-- one digit more to the value
digit_value : (d n : ℕ) (after : List ℕ) → d < 10 → digits_value (decimal_digit d ∷ after) n ≡ digits_value after (10 * n + d)
unfolding digits_value
digit_value d n after h =
    let e : 10 * n + (48 + d - 48) ≡ 10 * n + d = omega arith in
    rw (digit_is (48 + d) (omega arith, omega arith)) (ap (digits_value after) e)

fewer_digits : (most n : ℕ) → n < 10 ^ suc most → n / 10 < 10 ^ most
fewer_digits most n h = (div-lt_iff_lt-mul {k = 10} {x = n} {y = 10 ^ most} (omega arith)).1 (rw pow-suc at h)

digits_value_lem : (most n : ℕ) (after : List ℕ) → n < 10 ^ most → digits_value (digits_before decimal_digit 10 most n after) 0 ≡ digits_value after n
unfolding digits_before
digits_value_lem zero n after h = let e : 0 ≡ n = omega arith in ap (digits_value after) e
digits_value_lem (suc most) n after h =
    elim (dec_le 10 n) [
      | yes g ↦ let e : 10 * (n / 10) + n % 10 ≡ n = omega arith in
          ap (λ (l : List ℕ). digits_value l 0) (digits_more decimal_digit 10 most n after g)
          ∙ digits_value_lem most (n / 10) (decimal_digit (n % 10) ∷ after) (fewer_digits most n h)
          ∙ digit_value (n % 10) (n / 10) after (omega arith)
          ∙ ap (digits_value after) e
      | no g ↦ let e : 10 * 0 + n ≡ n = omega arith in
          ap (λ (l : List ℕ). digits_value l 0) (digits_last decimal_digit 10 most n after (omega arith))
          ∙ digit_value n 0 after (omega arith)
          ∙ ap (digits_value after) e
    ]

number_of_digits : (text : List ℕ) (n : ℕ) → Each Digit text → 0 < length text → digits_value text 0 ≡ Some n → n < u16_limit → number text ≡ Some n
unfolding number ◌>>=◌
number_of_digits [] n each some-digit value low = absurd (omega arith)
number_of_digits (b ∷ bs) n each some-digit value low = rw (ne_eqb b 43 (λ e. omega arith), value, lt-ltb n u16_limit low)

module _ (n : ℕ) where
  pub decimal_digits : Each Digit (decimal n)
  unfolding decimal
  decimal_digits = digits_are 10 n [] tt

  pub decimal_some : 0 < length (decimal n)
  unfolding decimal
  decimal_some =
      elim (dec_le 10 n) [
        | yes h ↦ rw (digits_more decimal_digit 10 9 n [] h) (omega (arith, digits_before_others 9 (n / 10) (decimal_digit (n % 10) ∷ [])))
        | no h ↦ rw (digits_last decimal_digit 10 9 n [] (omega arith)) (omega arith)
      ]

  decimal_value : n < u16_limit → digits_value (decimal n) 0 ≡ Some n
  unfolding decimal digits_value
  decimal_value h = digits_value_lem 10 n [] (omega arith)

  pub decimal_number : n < u16_limit → number (decimal n) ≡ Some n
  decimal_number h = number_of_digits (decimal n) n decimal_digits decimal_some (decimal_value h) h
