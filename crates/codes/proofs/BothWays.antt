-- An enum whose cases are the rows of a table: each case is found at its number and at no other, and the contract of try_from leaves one answer.
use Rattle.std.proofs.lemmas.Option.{same_Some, none-some}
use mathlib.Core.Bool.{Bool, true, false}
use mathlib.Core.List.{List, [], ◌∷◌, map}
use mathlib.Core.Path.{◌≡◌, refl, sym, ap, ◌∙◌}
use Prim.Native.Nat.{ℕ}
use lib.Dec.{eqb}
use Rattle.std.specs.Prelude.{Result, Ok, Err, IfErr, Option, None, Some, option_map}
use Rattle.codes.specs.Table.{Table, lookup, row_of}
use Rattle.codes.specs.declared.unknown.UnknownCode.{UnknownCode}
use Rattle.codes.proofs.Lookup.{found_has_number}

-- The first of some cases whose row has the number.
unfoldable pub case_at : {E X : Type 0} → (X → E × ℕ) → List X → ℕ → Option X
case_at row [] n = None
case_at row (x ∷ xs) n = elim (eqb (row x).1 n) [ true ↦ Some x | false ↦ case_at row xs n ]

-- The cases are the rows of the table, all of them and in order, and each is found by its number.
pub record Rows {E X : Type 0} (table : Table E) (row : X → E × ℕ) (cases : List X) : Type 0 where
  pub table_is_rows : map row cases ≡ table
  pub found : (x : X) → case_at row cases (row x).1 ≡ Some x

-- What try_from says of its answer to n: it names the row at n, and an error has the number.
abbrev pub Answers : {E X : Type 0} → Table E → (Result X UnknownCode → Option (E × ℕ)) → ℕ → Result X UnknownCode → Type 0
Answers table answer n r = (answer r ≡ lookup table n) × IfErr r (λ e. e.0 ≡ n)

-- What try_from and u32's from are to each other, by their contracts: from's result for x is `(row x).1`. There is one answer to a number; the answer
-- to x's number is Ok x; and the answer is Ok x for no other number.
pub record BothWays {E X : Type 0} (table : Table E) (row : X → E × ℕ) (answer : Result X UnknownCode → Option (E × ℕ)) : Type 0 where
  pub one_answer : (n : ℕ) (r s : Result X UnknownCode) → Answers table answer n r → Answers table answer n s → r ≡ s
  pub from_to : (x : X) (r : Result X UnknownCode) → answer r ≡ lookup table (row x).1 → r ≡ Ok x
  pub to_from : (n : ℕ) (x : X) → answer (Ok x) ≡ lookup table n → (row x).1 ≡ n

module _ {E X : Type 0} (row : X → E × ℕ) where
  lookup_of_cases : (cases : List X) (n : ℕ) → lookup (map row cases) n ≡ option_map row (case_at row cases n)
  unfolding lookup case_at
  lookup_of_cases [] n = refl
  lookup_of_cases (x ∷ xs) n = go (eqb (row x).1 n) (lookup_of_cases xs n)
    where
      go : (b : Bool) → lookup (map row xs) n ≡ option_map row (case_at row xs n)
          → elim b [ true ↦ Some (row x) | false ↦ lookup (map row xs) n ] ≡ option_map row (elim b [ true ↦ Some x | false ↦ case_at row xs n ])
      go true later = refl
      go false later = later

module _ {E X : Type 0} {table : Table E} {row : X → E × ℕ} {cases : List X} (is : Rows table row cases) where
  -- Each case is found at its number.
  pub found_at_number : (x : X) → lookup table (row x).1 ≡ Some (row x)
  found_at_number x =
      ap (λ (t : Table E). lookup t (row x).1) (sym is.table_is_rows)
      ∙ lookup_of_cases row cases (row x).1
      ∙ ap (option_map row) (is.found x)

  -- Two cases never share a row.
  pub row_injective : (x y : X) → row x ≡ row y → x ≡ y
  row_injective x y e =
      same_Some x y
      (sym (is.found x) ∙ ap (λ (r : E × ℕ). case_at row cases r.1) e ∙ is.found y)

module _ {E X : Type 0} {table : Table E} {row : X → E × ℕ} {cases : List X} (is : Rows table row cases) where
  same : (n : ℕ) (r s : Result X UnknownCode) → row_of row r ≡ row_of row s → IfErr r (λ e. e.0 ≡ n) → IfErr s (λ e. e.0 ≡ n) → r ≡ s
  same n (Ok x) (Ok y) e _ _ = ap Ok (row_injective is x y (same_Some (row x) (row y) e))
  same n (Ok x) (Err _) e _ _ = absurd (none-some (row x) (sym e))
  same n (Err _) (Ok y) e _ _ = absurd (none-some (row y) e)
  same n (Err a) (Err b) _ p q = ap (λ (m : ℕ). Err (record { 0 = m })) (p ∙ sym q)

  case_of : (x : X) (r : Result X UnknownCode) → row_of row r ≡ Some (row x) → r ≡ Ok x
  case_of x (Ok y) e = ap Ok (row_injective is y x (same_Some (row y) (row x) e))
  case_of x (Err _) e = absurd (none-some (row x) e)

  pub both_ways : BothWays table row (row_of row)
  both_ways = record {
    one_answer = λ n r s p q. same n r s (p.0 ∙ sym q.0) p.1 q.1;
    from_to = λ x r p. case_of x r (p ∙ found_at_number is x);
    to_from = λ n x p. found_has_number table n (row x) (sym p);
  }
