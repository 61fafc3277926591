-- Two tables compared record by record: the first pair that differs decides, and where all agree up to one, the others do. Each follows the definition.
use mathlib.Core.Path.{◌≡◌, refl, ap, ◌∙◌}
use mathlib.Core.Bool.{Bool, true, false, ◌&&◌}
use mathlib.Core.List.{List, [], ◌∷◌}
use Prim.Native.Nat.{ℕ, zero, suc, ◌+◌, ◌-◌, ◌≤◌, ◌<◌}
use native.Mathlib.Omega.{arith}
use lib.ListN.{length}
use Rattle.std.specs.List.{list_all, range_with_len}
use Rattle.tables.specs.Decode.{records_from}
use Rattle.write_spec.specs.Same.{same_list}

-- Lists that are not as long are not equal.
pub other_lengths : {A : Type 0} (same : A → A → Bool) (xs ys : List A) → (length xs ≡ length ys → ⊥) → same_list same xs ys ≡ false
unfolding same_list
other_lengths same [] [] h = absurd (h refl)
other_lengths same [] (y ∷ ys) h = refl
other_lengths same (x ∷ xs) [] h = refl
other_lengths same (x ∷ xs) (y ∷ ys) h = rw (other_lengths same xs ys (λ e. h (ap suc e))) (and-false (same x y))
  where
    and-false : (b : Bool) → (b && false) ≡ false
    and-false true = refl
    and-false false = refl

-- Records of each of two tables.
module _ {A : Type 0} (same : A → A → Bool) (f g : ℕ → A) where
  more : (k n : ℕ) → 0 < n
      → same_list same (records_from f k n) (records_from g k n) ≡ same (f k) (g k)
      && same_list same (records_from f (suc k) (n - 1)) (records_from g (suc k) (n - 1))
  unfolding same_list records_from
  more k zero h = absurd (omega arith)
  more k (suc n) h =
      let less : suc n - 1 ≡ n = omega arith in
      rw less

  none : (k n : ℕ) → n ≡ 0 → same_list same (records_from f k n) (records_from g k n) ≡ true
  unfolding same_list records_from
  none k zero h = refl
  none k (suc n) h = absurd (omega (arith, h))

  pub equal_start : (first count : ℕ)
      → same_list same (records_from f first count) (records_from g first count)
      ≡ same_list same (records_from f first (first + count - first)) (records_from g first (first + count - first))
  equal_start first count =
      let q : count ≡ first + count - first = omega arith in
      λ z. same_list same (records_from f first (q z)) (records_from g first (q z))

  module _ (end : ℕ) where
    -- Whether those from record k up to record `end` are equal.
    abbrev pub rest_equal : ℕ → Bool
    rest_equal k = same_list same (records_from f k (end - k)) (records_from g k (end - k))

    pub equal_onward : (k : ℕ) → k < end → same (f k) (g k) ≡ true → rest_equal k ≡ rest_equal (k + 1)
    equal_onward k h e =
        let p : suc k ≡ k + 1 = omega arith in
        let q : end - k - 1 ≡ end - (k + 1) = omega arith in
        more k (end - k) (omega arith) ∙ rw e (λ z. same_list same (records_from f (p z) (q z)) (records_from g (p z) (q z)))

    pub equal_stops : (k : ℕ) → k < end → same (f k) (g k) ≡ false → rest_equal k ≡ false
    equal_stops k h e = more k (end - k) (omega arith) ∙ rw e

    pub equal_end : (k : ℕ) → end ≤ k → rest_equal k ≡ true
    equal_end k h = none k (end - k) (omega arith)

-- A test of each pair of records compares the tables.
pub all_equal : {A : Type 0} (same : A → A → Bool) (f g : ℕ → A) (k n : ℕ)
    → list_all (λ i. same (f i) (g i)) (range_with_len k n) ≡ same_list same (records_from f k n) (records_from g k n)
unfolding same_list records_from
all_equal same f g k zero = refl
all_equal same f g k (suc n) =
    let next : k + 1 ≡ suc k = omega arith in
    (λ z. same (f k) (g k) && list_all (λ i. same (f i) (g i)) (range_with_len (next z) n)) ∙ (λ z. same (f k) (g k) && all_equal same f g (suc k) n z)
