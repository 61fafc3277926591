-- A text that is put together from a base name, dimensions and an array suffix comes apart again where it was put together: no byte before a seam is
-- the one that the reader looks for.
use Rattle.std.specs.Prelude.{None, Some}
use mathlib.Core.Path.{◌≡◌, refl, ◌∙◌}
use mathlib.Core.Bool.{true, false}
use mathlib.Core.List.{List, [], ◌∷◌, ◌++◌, append-nil}
use Prim.Native.Nat.{ℕ, ◌<◌}
use native.Mathlib.Decide.{ℕ_discrete}
use native.Mathlib.Omega.{arith}
use borrow.Author.Tests.{eq-eqb, ne_eqb}
use lib.ListN.{length, length-append}
use Rattle.reflection.specs.Limits.{u16_limit}
use Rattle.tables.specs.Nodes.{◌>>=◌}
use Rattle.text_output.specs.Digits.{decimal}
use Rattle.spelling.specs.Names.{base_number}
use Rattle.spelling.specs.Spelling.{array_suffix}
use Rattle.spelling_parse.specs.Grammar.{is_digit, split_once, without_last, before_digit, from_digit, Shape, shape_of, shape, core, parse_type}
use Rattle.spelling_parse.proofs.WriteDecimal.{Each, each_so, Digit, digit_is, decimal_digits, decimal_some, decimal_number}

-- a byte that is not c
abbrev pub Other : ℕ → ℕ → Type 0
Other c b = b ≡ c → ⊥

pub unsplit : (c : ℕ) (xs : List ℕ) → Each (Other c) xs → split_once c xs ≡ None
unfolding split_once
unsplit c [] each = refl
unsplit c (x ∷ xs) each = rw (ne_eqb x c each.0, unsplit c xs each.1)

pub split_at : (c : ℕ) (xs ys : List ℕ) → Each (Other c) xs → split_once c (xs ++ (c ∷ ys)) ≡ Some (xs, ys)
unfolding split_once
split_at c [] ys each = rw (eq-eqb c c refl)
split_at c (x ∷ xs) ys each = rw (ne_eqb x c each.0, split_at c xs ys each.1)

pub last_taken : (c : ℕ) (xs : List ℕ) → without_last c (xs ++ (c ∷ [])) ≡ Some xs
unfolding without_last ◌>>=◌
last_taken c [] = rw (eq-eqb c c refl)
last_taken c (x ∷ []) = rw (eq-eqb c c refl)
last_taken c (x ∷ y ∷ xs) = rw (last_taken c (y ∷ xs))

-- a text begins with a digit, or is empty
abbrev pub FromDigit : List ℕ → Type 0
FromDigit [] = Unit {0}
FromDigit (b ∷ bs) = is_digit b ≡ true

abbrev pub NoDigit : ℕ → Type 0
NoDigit b = is_digit b ≡ false

pub before_digits : (name dims : List ℕ) → Each NoDigit name → FromDigit dims → before_digit (name ++ dims) ≡ name
unfolding before_digit
before_digits [] [] each d = refl
before_digits [] (b ∷ bs) each d = rw d
before_digits (x ∷ xs) dims each d = rw (each.0, before_digits xs dims each.1 d)

pub from_digits : (name dims : List ℕ) → Each NoDigit name → FromDigit dims → from_digit (name ++ dims) ≡ dims
unfolding from_digit
from_digits [] [] each d = refl
from_digits [] (b ∷ bs) each d = rw d
from_digits (x ∷ xs) dims each d = rw (each.0, from_digits xs dims each.1 d)

-- digits are neither `[` nor `x`
pub digits_other : (c : ℕ) → 57 < c → (xs : List ℕ) → Each Digit xs → Each (Other c) xs
digits_other c h xs each = each_so Digit (Other c) (λ b d e. omega arith) xs each

digits_first : (xs ys : List ℕ) → Each Digit xs → 0 < length xs → FromDigit (xs ++ ys)
digits_first [] ys each h = absurd (omega arith)
digits_first (x ∷ xs) ys each h = digit_is x each.0

shape_some : (dims : List ℕ) → 0 < length dims → shape dims ≡ shape_of dims (split_once 120 dims)
shape_some [] h = absurd (omega arith)
shape_some (b ∷ bs) h = refl

-- the dimensions of a vector and of a matrix
pub vector_shape : (columns : ℕ) → columns < u16_limit → shape (decimal columns) ≡ Some (1, (1, columns))
unfolding ◌>>=◌
vector_shape columns h =
    shape_some (decimal columns) (decimal_some columns)
    ∙ rw (unsplit 120 (decimal columns) (digits_other 120 (omega arith) (decimal columns) (decimal_digits columns)), decimal_number columns h)

pub matrix_shape : (rows columns : ℕ) → rows < u16_limit → columns < u16_limit
    → shape (decimal rows ++ (120 ∷ decimal columns)) ≡ Some (3, (rows, columns))
unfolding ◌>>=◌
matrix_shape rows columns h k =
    shape_some (decimal rows ++ (120 ∷ decimal columns)) (omega (arith, length-append (decimal rows) (120 ∷ decimal columns)))
    ∙ rw (
      split_at 120 (decimal rows) (decimal columns) (digits_other 120 (omega arith) (decimal rows) (decimal_digits rows)),
      decimal_number rows h,
      decimal_number columns k,
    )

pub vector_from_digit : (columns : ℕ) → FromDigit (decimal columns)
vector_from_digit columns = rw append-nil at (digits_first (decimal columns) [] (decimal_digits columns) (decimal_some columns))

pub matrix_from_digit : (rows : ℕ) (ys : List ℕ) → FromDigit (decimal rows ++ ys)
matrix_from_digit rows ys = digits_first (decimal rows) ys (decimal_digits rows) (decimal_some rows)

-- the array suffix, where nothing before it is a `[`
pub suffix_parted : (xs : List ℕ) (elements : ℕ) → Each (Other 91) xs → elements < u16_limit → parse_type (xs ++ array_suffix elements) ≡ core xs elements
unfolding parse_type array_suffix ◌>>=◌
suffix_parted xs elements each h =
    elim (ℕ_discrete elements 0) [
      | yes e ↦ rw (e, append-nil, unsplit 91 xs each)
      | no n ↦ rw (
        ne_eqb elements 0 n,
        split_at 91 xs (decimal elements ++ (93 ∷ [])) each,
        last_taken 93 (decimal elements),
        decimal_number elements h,
      )
    ]

-- a base name and dimensions
pub core_parted : (name dims : List ℕ) (base elements : ℕ) (s : Shape) → Each NoDigit name → FromDigit dims → base_number name ≡ Some base
    → shape dims ≡ Some s
    → core (name ++ dims) elements ≡ Some (record { class = s.0; base = base; rows = s.1.0; columns = s.1.1; elements = elements })
unfolding core ◌>>=◌
core_parted name dims base elements s letters digits b d = rw (before_digits name dims letters digits, b, from_digits name dims letters digits, d)
