-- Numbers of a spelling, digit by digit. Once the value passes 65,535 the text has no number: more digits only make it larger.
use Rattle.std.specs.Prelude.{Option, None, Some}
use mathlib.Core.Path.{◌≡◌, refl, sym, ◌∙◌}
use mathlib.Core.Bool.{Bool, true, false, cond}
use mathlib.Core.List.{List, [], ◌∷◌}
use Prim.Native.Nat.{ℕ, suc, ◌+◌, ◌*◌, ◌-◌, ◌<◌, ◌≤◌}
use native.Mathlib.Numerals.{add-one}
use native.Mathlib.Omega.{arith}
use borrow.Author.Tests.{lt-ltb, le-ltb, eqb-true}
use lib.Dec.{eqb}
use lib.ListN.{length, get_or, drop, drop_of_length-le}
use lib.Seq.{drop-cons}
use Rattle.reflection.specs.Limits.{u16_limit}
use Rattle.tables.specs.Nodes.{◌>>=◌}
use Rattle.spelling_parse.specs.Grammar.{is_digit, digits_value, digits_number, without_plus, as_u16, number}

-- a value from 65,536 on only grows, digit by digit
digits_too_large : (digits : List ℕ) (n : ℕ) → u16_limit ≤ n → (digits_value digits n >>= as_u16) ≡ None
unfolding digits_value ◌>>=◌
digits_too_large [] n h = rw (le-ltb n u16_limit h)
digits_too_large (b ∷ bs) n h = go (is_digit b) (digits_too_large bs (10 * n + (b - 48)) (omega arith))
  where
    go : (t : Bool) → (digits_value bs (10 * n + (b - 48)) >>= as_u16) ≡ None
        → (cond t (digits_value bs (10 * n + (b - 48))) None >>= as_u16) ≡ None
    go true e = e
    go false e = refl

-- The number that the digits from index i on make after those of value n.
abbrev pub number_from : List ℕ → ℕ → ℕ → Option ℕ
number_from digits i n = digits_value (drop i digits) n >>= as_u16

module _ (digits : List ℕ) (i n : ℕ) where
  pub number_from_end : length digits ≤ i → n < u16_limit → number_from digits i n ≡ Some n
  unfolding digits_value ◌>>=◌
  number_from_end h g = rw (drop_of_length-le digits h, lt-ltb n u16_limit g)

  pub number_from_other : i < length digits → is_digit (get_or digits i 0) ≡ false → number_from digits i n ≡ None
  unfolding digits_value ◌>>=◌
  number_from_other h e = rw (drop-cons digits i 0 h, e)

  pub number_from_digit : i < length digits → is_digit (get_or digits i 0) ≡ true
      → number_from digits i n ≡ number_from digits (i + 1) (10 * n + (get_or digits i 0 - 48))
  unfolding digits_value
  number_from_digit h e = rw (drop-cons digits i 0 h, e, add-one i)

  pub number_from_too_large : i < length digits → is_digit (get_or digits i 0) ≡ true → u16_limit ≤ 10 * n + (get_or digits i 0 - 48)
      → number_from digits i n ≡ None
  number_from_too_large h e g = number_from_digit h e ∙ digits_too_large (drop (i + 1) digits) (10 * n + (get_or digits i 0 - 48)) g

-- A text without a digit has no number; any other has the number that its digits make after none, behind a `+` if there is one.
module _ (text : List ℕ) where
  number_by : (digits : List ℕ) → without_plus text ≡ digits → number text ≡ (digits_number digits >>= as_u16)
  unfolding number
  number_by digits e = rw e

  pub number_nothing : {digits : List ℕ} → digits ≡ without_plus text → eqb (length digits) 0 ≡ true → number text ≡ None
  unfolding ◌>>=◌
  number_nothing {digits = []} e h = number_by [] (sym e)
  number_nothing {digits = b ∷ bs} e h = let some : suc (length bs) ≡ 0 = eqb-true (suc (length bs)) 0 h in absurd (omega arith)

  pub number_start : {digits : List ℕ} → digits ≡ without_plus text → eqb (length digits) 0 ≡ false → number text ≡ number_from digits 0 0
  number_start {digits = []} e h = cc
  number_start {digits = b ∷ bs} e h = number_by (b ∷ bs) (sym e)
