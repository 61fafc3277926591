-- A code table as Microsoft's pages print it, each enumerator with its number, and what it has at a number.
use Rattle.std.specs.Prelude.{Bool, true, false, List, [], ◌∷◌, ℕ, eqb, Result, Ok, Err, Option, None, Some}

abbrev pub Table : Type 0 → Type 0
Table A = List (A × ℕ)

-- The row that has the number; none beyond the table.
unfoldable pub lookup : {A : Type 0} → Table A → ℕ → Option (A × ℕ)
lookup [] n = None
lookup (row ∷ rows) n = elim (eqb row.1 n) [ true ↦ Some row | false ↦ lookup rows n ]

-- The row that an answer names: the row of its code, where it has one.
abbrev pub row_of : {A X F : Type 0} → (X → A × ℕ) → Result X F → Option (A × ℕ)
row_of row (Ok x) = Some (row x)
row_of row (Err e) = None

-- Whether there is a row.
abbrev pub is_row : {A : Type 0} → Option A → Bool
is_row None = false
is_row (Some row) = true

-- Whether a table has a number.
unfoldable pub known : {A : Type 0} → Table A → ℕ → Bool
known table n = is_row (lookup table n)
