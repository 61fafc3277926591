-- `same_bytes` is true exactly where the two lists are equal: by the lists, one byte of each at a time.
use mathlib.Core.Path.{◌≡◌, refl, ap}
use mathlib.Core.Bool.{Bool, true, false, ◌&&◌}
use mathlib.Core.List.{List, [], ◌∷◌}
use Prim.Native.Nat.{ℕ}
use lib.Dec.{eqb}
use lib.ListN.{get_or}
use Rattle.std.specs.Bool.{Decides}
use Rattle.std.specs.Cmp.Lexicographic.{pointwise}
use Rattle.std.proofs.Common.{rules}
use Rattle.std.proofs.lemmas.Bool.{false_from_ne_true}
use Rattle.std.proofs.lemmas.Slice.Eq.{compares_Decides}
use Rattle.text.specs.Same.{same_bytes}

same_bytes_decides : (xs ys : List ℕ) → Decides (same_bytes xs ys) (xs ≡ ys)
unfolding same_bytes
same_bytes_decides = compares_Decides same_bytes (search rules)

pub same_bytes_equal : (xs ys : List ℕ) → same_bytes xs ys ≡ true → xs ≡ ys
same_bytes_equal xs ys = (same_bytes_decides xs ys).0

pub equal_same_bytes : (xs ys : List ℕ) → xs ≡ ys → same_bytes xs ys ≡ true
equal_same_bytes xs ys = (same_bytes_decides xs ys).1

pub same_bytes_refl : (xs : List ℕ) → same_bytes xs xs ≡ true
same_bytes_refl xs = equal_same_bytes xs xs refl

-- lists that differ at an index are not the same
pub other_byte : (xs ys : List ℕ) (i : ℕ) → (get_or xs i 0 ≡ get_or ys i 0 → ⊥) → same_bytes xs ys ≡ false
other_byte xs ys i h = false_from_ne_true (same_bytes xs ys) (λ e. h (ap (λ (l : List ℕ). get_or l i 0) (same_bytes_equal xs ys e)))

-- it is what `==` of slices says
pub same_bytes_pointwise : (xs ys : List ℕ) → pointwise eqb xs ys ≡ same_bytes xs ys
unfolding same_bytes
same_bytes_pointwise [] [] = refl
same_bytes_pointwise [] (y ∷ ys) = refl
same_bytes_pointwise (x ∷ xs) [] = refl
same_bytes_pointwise (x ∷ xs) (y ∷ ys) = ap (λ (t : Bool). eqb x y && t) (same_bytes_pointwise xs ys)
