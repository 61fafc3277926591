-- Looking a number up, whatever the table: a row that is found has the number; where the numbers count up from 0, those that are known are exactly
-- those up to the last; and else they are those of the rows. All by going down the table.
use Rattle.std.specs.Prelude.{Some}
use Rattle.std.proofs.lemmas.Option.{same_Some, none-some}
use mathlib.Core.Bool.{Bool, true, false, ◌&&◌, ◌||◌}
use mathlib.Core.List.{List, [], ◌∷◌, map}
use mathlib.Core.Path.{◌≡◌, refl, sym, ap, ◌∙◌}
use Prim.Native.Nat.{ℕ, zero, suc, ◌+◌}
use native.Mathlib.Nat.{zero-add}
use native.Mathlib.Omega.{arith}
use lib.Dec.{T, eqb, ltb, leb, eqb→eq, leb-zero, leb-suc-zero, leb-suc-suc}
use lib.ListN.{length}
use borrow.Author.Tests.{eqb-true, eq-eqb, ne_eqb}
use Rattle.codes.specs.Table.{Table, lookup, is_row, known}

-- The rows' numbers count up from k.
abbrev pub consecutive : {A : Type 0} → ℕ → Table A → Bool
consecutive k [] = true
consecutive k (row ∷ rows) = eqb row.1 k && consecutive (suc k) rows

-- The number is one of the list's.
abbrev pub one_of : List ℕ → ℕ → Bool
one_of [] n = false
one_of (m ∷ ms) n = eqb m n || one_of ms n

both : (a b : Bool) → T (a && b) → T a × T b
both true b t = (tt, t)
both false b t = absurd t

module _ {A : Type 0} where
  pub found_has_number : (table : Table A) (n : ℕ) (row : A × ℕ) → lookup table n ≡ Some row → row.1 ≡ n
  unfolding lookup
  found_has_number [] n row e = absurd (none-some row e)
  found_has_number (first ∷ rows) n row e = go (eqb first.1 n) refl (found_has_number rows n row) e
    where
      go : (b : Bool) → eqb first.1 n ≡ b → (lookup rows n ≡ Some row → row.1 ≡ n)
          → elim b [ true ↦ Some first | false ↦ lookup rows n ] ≡ Some row → row.1 ≡ n
      go true q later e = ap (λ (r : A × ℕ). r.1) (sym (same_Some first row e)) ∙ eqb-true first.1 n q
      go false q later e = later e

  consecutive_row : (k : ℕ) (row : A × ℕ) (rows : Table A) → T (consecutive k (row ∷ rows)) → (row.1 ≡ k) × T (consecutive (suc k) rows)
  consecutive_row k row rows t =
      let t : T (eqb row.1 k) × T (consecutive (suc k) rows) = both (eqb row.1 k) (consecutive (suc k) rows) t in
      (eqb→eq row.1 k t.0, t.1)

  known_from : (k : ℕ) (table : Table A) → T (consecutive k table) → (n : ℕ) → known table (k + n) ≡ ltb n (length table)
  unfolding known lookup
  known_from k [] t n = sym (leb-suc-zero n)
  known_from k (row ∷ rows) t zero =
      let here : row.1 ≡ k + zero = omega (arith, (consecutive_row k row rows t).0) in
      rw (eq-eqb row.1 (k + zero) here, lookup) (sym (leb-suc-suc zero (length rows) ∙ leb-zero (length rows)))
  known_from k (row ∷ rows) t (suc n) =
      let e : row.1 ≡ k = (consecutive_row k row rows t).0 in
      let other : row.1 ≡ k + suc n → ⊥ = λ q. omega arith in
      let next : k + suc n ≡ suc k + n = omega arith in
      rw (ne_eqb row.1 (k + suc n) other, lookup)
      (ap (known rows) next ∙ known_from (suc k) rows (consecutive_row k row rows t).1 n ∙ sym (leb-suc-suc (suc n) (length rows)))

  pub known_up_to : (table : Table A) (last : ℕ) → T (consecutive 0 table) → length table ≡ suc last → (n : ℕ) → known table n ≡ leb n last
  known_up_to table last t e n = ap (known table) (sym (zero-add n)) ∙ known_from 0 table t n ∙ ap (ltb n) e ∙ leb-suc-suc n last

  pub known_one_of : (table : Table A) (n : ℕ) → known table n ≡ one_of (map (λ (row : A × ℕ). row.1) table) n
  unfolding known lookup
  known_one_of [] n = refl
  known_one_of (row ∷ rows) n = go (eqb row.1 n) (known_one_of rows n)
    where
      go : (b : Bool) → known rows n ≡ one_of (map (λ (row : A × ℕ). row.1) rows) n
          → is_row {A = A × ℕ} (elim b [ true ↦ Some row | false ↦ lookup rows n ]) ≡ b || one_of (map (λ (row : A × ℕ). row.1) rows) n
      go true later = refl
      go false later = later
