-- Records i to i + n - 1 of a table as a list: mapped and cut record by record, since the list is made record by record; and places that only rise from
-- record to record.
use mathlib.Core.Path.{◌≡◌, refl, ap, sym, ◌∙◌}
use mathlib.Core.List.{List, [], ◌∷◌, ◌++◌, map}
use Prim.Native.Nat.{ℕ, zero, suc, ◌+◌, ◌-◌, ◌≤◌, ◌<◌}
use native.Mathlib.Nat.{add-zero, add-suc, suc-add}
use native.Mathlib.Numerals.{add-one}
use native.Mathlib.Omega.{arith}
use lib.ListN.{length, take, drop}
use Rattle.tables.specs.Decode.{records_from}

pub length_records : {A : Type 0} (record-at : ℕ → A) (i n : ℕ) → length (records_from record-at i n) ≡ n
unfolding records_from
length_records record-at i zero = refl
length_records record-at i (suc n) = ap suc (length_records record-at (suc i) n)

module _ {A : Type 0} where
  pub map_records : {B : Type 0} (g : A → B) (f : ℕ → A) (i n : ℕ) → map g (records_from f i n) ≡ records_from (λ j. g (f j)) i n
  unfolding records_from
  map_records g f i zero = refl
  map_records g f i (suc n) = ap (λ (l : List _). g (f i) ∷ l) (map_records g f (suc i) n)

  -- Records that agree where they are read are the same list.
  pub same_records : (f g : ℕ → A) (i n : ℕ) → ((j : ℕ) → i ≤ j → j < i + n → f j ≡ g j) → records_from f i n ≡ records_from g i n
  unfolding records_from
  same_records f g i zero same = refl
  same_records f g i (suc n) same =
      let p = same i (omega arith) (omega arith) in
      let q = same_records f g (suc i) n (λ j low high. same j (omega arith) (omega arith)) in
      λ z. p z ∷ q z

  -- One record more.
  pub records_snoc : (f : ℕ → A) (i n : ℕ) → records_from f i (suc n) ≡ records_from f i n ++ (f (i + n) ∷ [])
  unfolding records_from
  records_snoc f i zero = ap (λ (k : ℕ). f k ∷ []) (sym (add-zero i))
  records_snoc f i (suc n) = ap (λ (l : List A). f i ∷ l) (records_snoc f (suc i) n ∙ ap (λ (k : ℕ). records_from f (suc i) n ++ (f k ∷ []))
      (suc-add i n ∙ sym (add-suc i n)))

  -- The same, where a loop has stored one more and left the others.
  pub records_more : (f g : ℕ → A) (i n : ℕ) (x : A) → ((j : ℕ) → i ≤ j → j < i + n → f j ≡ g j) → x ≡ g (i + n) → records_from f i n ++ (x ∷ [])
      ≡ records_from g i (n + 1)
  records_more f g i n x same last =
      let p = same_records f g i n same in
      (λ z. p z ++ (last z ∷ [])) ∙ sym (records_snoc g i n) ∙ ap (records_from g i) (sym (add-one n))

  -- What is left of n records where i are done: the next, and then the others.
  pub records_left : (f : ℕ → A) (i n : ℕ) → i < n → records_from f i (n - i) ≡ f i ∷ records_from f (i + 1) (n - (i + 1))
  unfolding records_from
  records_left f i n more =
      ap (records_from f i) (let e : n - i ≡ suc (n - (i + 1)) = omega arith in e) ∙ ap (λ (k : ℕ). f i ∷ records_from f k (n - (i + 1))) (sym (add-one i))

  pub records_done : (f : ℕ → A) (i n : ℕ) → n ≤ i → records_from f i (n - i) ≡ []
  unfolding records_from
  records_done f i n done = ap (records_from f i) (let e : n - i ≡ 0 = omega arith in e)

  -- The same from record j on.
  pub records_left_from : (f : ℕ → A) (j i n : ℕ) → i < n → records_from f (j + i) (n - i) ≡ f (j + i) ∷ records_from f (j + (i + 1)) (n - (i + 1))
  unfolding records_from
  records_left_from f j i n more =
      ap (records_from f (j + i)) (let e : n - i ≡ suc (n - (i + 1)) = omega arith in e)
      ∙ ap (λ (k : ℕ). f (j + i) ∷ records_from f k (n - (i + 1))) (let e : suc (j + i) ≡ j + (i + 1) = omega arith in e)

  pub records_done_from : (f : ℕ → A) (j i n : ℕ) → n ≤ i → records_from f (j + i) (n - i) ≡ []
  unfolding records_from
  records_done_from f j i n done = ap (records_from f (j + i)) (let e : n - i ≡ 0 = omega arith in e)

  -- The first c of them, and the others.
  pub take_records : (f : ℕ → A) (i n c : ℕ) → c ≤ n → take c (records_from f i n) ≡ records_from f i c
  unfolding records_from
  take_records f i n zero few = refl
  take_records f i zero (suc c) few = absurd (omega arith)
  take_records f i (suc n) (suc c) few = ap (λ (l : List A). f i ∷ l) (take_records f (suc i) n c (omega arith))

  pub drop_records : (f : ℕ → A) (i n c : ℕ) → c ≤ n → drop c (records_from f i n) ≡ records_from f (i + c) (n - c)
  unfolding records_from
  drop_records f i n zero few = λ z. records_from f (sym (add-zero i) z) (same z)
    where
      same : n ≡ n - 0
      same = omega arith
  drop_records f i zero (suc c) few = absurd (omega arith)
  drop_records f i (suc n) (suc c) few =
      drop_records f (suc i) n c (omega arith)
      ∙ λ z. records_from f ((suc-add i c ∙ sym (add-suc i c)) z) (same z)
    where
      same : n - c ≡ suc n - suc c
      same = omega arith

-- What does not fall from one record to the next does not fall over several.
module _ (place : ℕ → ℕ) (up : (i : ℕ) → place i ≤ place (suc i)) where
  pub rises : (i n : ℕ) → place i ≤ place (i + n)
  rises i zero = omega (arith, ap place (add-zero i))
  rises i (suc n) = omega (arith, rises i n, up (i + n), ap place (add-suc i n))

  pub rises_below : (i k : ℕ) → i ≤ k → place i ≤ place k
  rises_below i k h =
      let e : i + (k - i) ≡ k = omega arith in
      omega (arith, rises i (k - i), ap place e)
