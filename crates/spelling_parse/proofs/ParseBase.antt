-- The base type of a name by the name's length and bytes, as the code tests them.
use Rattle.std.proofs.Math.Bool.{and-false}
use Rattle.std.specs.Prelude.{Option, Some, None}
use mathlib.Core.Bool.{true, ◌&&◌, cond}
use mathlib.Core.List.{List, [], ◌∷◌}
use mathlib.Core.Path.{◌≡◌, refl, ◌∙◌}
use Prim.Native.Nat.{ℕ}
use native.Mathlib.Omega.{arith}
use borrow.Author.Tests.{ne_eqb}
use lib.Dec.{eqb}
use lib.ListN.{length, get_or}
use Rattle.text.specs.Same.{same_bytes}
use Rattle.spelling.specs.Names.{base_number}

abbrev by_bytes : ℕ → ℕ → ℕ → ℕ → ℕ → ℕ → ℕ → Option ℕ
by_bytes n a b c d e f =
    cond (eqb n 4 && (eqb a 98 && (eqb b 111 && (eqb c 111 && (eqb d 108 && true))))) (Some 1)
    (cond (eqb n 3 && (eqb a 105 && (eqb b 110 && (eqb c 116 && true)))) (Some 2)
    (cond (eqb n 5 && (eqb a 102 && (eqb b 108 && (eqb c 111 && (eqb d 97 && (eqb e 116 && true)))))) (Some 3)
    (cond (eqb n 4 && (eqb a 117 && (eqb b 105 && (eqb c 110 && (eqb d 116 && true))))) (Some 19)
    (cond (eqb n 6 && (eqb a 100 && (eqb b 111 && (eqb c 117 && (eqb d 98 && (eqb e 108 && (eqb f 101 && true))))))) (Some 39) None))))

abbrev pub base_at : ℕ → List ℕ → Option ℕ
base_at n name = by_bytes n (get_or name 0 0) (get_or name 1 0) (get_or name 2 0) (get_or name 3 0) (get_or name 4 0) (get_or name 5 0)

base_reads : (name : List ℕ) → base_number name ≡ base_at (length name) name
unfolding base_number same_bytes
base_reads [] = refl
base_reads (a ∷ []) = simp and-false
base_reads (a ∷ b ∷ []) = simp and-false
base_reads (a ∷ b ∷ c ∷ []) = simp and-false
base_reads (a ∷ b ∷ c ∷ d ∷ []) = simp and-false
base_reads (a ∷ b ∷ c ∷ d ∷ e ∷ []) = simp and-false
base_reads (a ∷ b ∷ c ∷ d ∷ e ∷ f ∷ []) = simp and-false
base_reads (a ∷ b ∷ c ∷ d ∷ e ∷ f ∷ g ∷ gs) =
    let n = length (a ∷ b ∷ c ∷ d ∷ e ∷ f ∷ g ∷ gs) in
    simp (and-false, ne_eqb n 3 (λ z. omega arith), ne_eqb n 4 (λ z. omega arith), ne_eqb n 5 (λ z. omega arith), ne_eqb n 6 (λ z. omega arith))

module _ (name : List ℕ) where
  pub base_of_three : length name ≡ 3 → base_number name ≡ base_at 3 name
  base_of_three e = base_reads name ∙ rw e

  pub base_of_four : length name ≡ 4 → base_number name ≡ base_at 4 name
  base_of_four e = base_reads name ∙ rw e

  pub base_of_five : length name ≡ 5 → base_number name ≡ base_at 5 name
  base_of_five e = base_reads name ∙ rw e

  pub base_of_six : length name ≡ 6 → base_number name ≡ base_at 6 name
  base_of_six e = base_reads name ∙ rw e

  pub base_of_no_length : (length name ≡ 3 → ⊥) → (length name ≡ 4 → ⊥) → (length name ≡ 5 → ⊥) → (length name ≡ 6 → ⊥) → base_number name ≡ None
  base_of_no_length c d e f =
      base_reads name ∙ rw (ne_eqb (length name) 3 c, ne_eqb (length name) 4 d, ne_eqb (length name) 5 e, ne_eqb (length name) 6 f)

pub ruleset bases = (base_of_three, base_of_four, base_of_five, base_of_six, base_of_no_length)
