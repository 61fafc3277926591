-- Regions of the scratch. Where a part a..b was lent and came back as p, the scratch is what stood before it, p, and what stood after it: its region a..b
-- is p, and every word outside is what it was. A region whose words are what they were is the region that it was.
use mathlib.Core.Path.{◌≡◌, refl, sym, ap, ◌∙◌}
use mathlib.Core.Bool.{Bool, true, false}
use mathlib.Core.List.{List, [], ◌∷◌, ◌++◌}
use Prim.Native.Nat.{ℕ, zero, suc, ◌+◌, ◌*◌, ◌-◌, ◌≤◌, ◌<◌}
use native.Mathlib.Omega.{arith}
use lib.Dec.{ltb}
use borrow.Author.Tests.{ltb-true, ltb-false}
use lib.ListN.{length, get_or, take, drop, length-append, length-drop, get_or-append}
use lib.Seq.{ext_get_or, get_or-take, get_or-drop, get_or-append-add, length-take-le, take_at, drop_at}
use Rattle.reflection.specs.declared.Text.{Text}
use Rattle.reflection.specs.Reflection.{TypeDesc}
use Rattle.write_texts.specs.Scratch.{shared_width, region, types_from}
use Rattle.write_texts.specs.PlacedInScratch.{Kept}

-- how long a region is, and the words in it
pub length_region : (from to : ℕ) (s : List ℕ) → from ≤ to → to ≤ length s → length (region from to s) ≡ to - from
unfolding region
length_region from to s h fits = length-take-le (to - from) (drop from s) (omega (arith, length-drop from s))

pub region_word : (from to : ℕ) (s : List ℕ) (i : ℕ) → from + i < to → get_or (region from to s) i 0 ≡ get_or s (from + i) 0
unfolding region
region_word from to s i h = get_or-take (to - from) (drop from s) i 0 (omega arith) ∙ get_or-drop from s i 0

-- a list is as long as another and has the same words in a region
pub region_agree : (from to : ℕ) (s s' : List ℕ) → length s' ≡ length s → to ≤ length s → ((i : ℕ) → from ≤ i → i < to → get_or s' i 0 ≡ get_or s i 0)
    → region from to s' ≡ region from to s
unfolding region
region_agree from to s s' long fits same = by_order (ltb to from) refl
  where
    empty : (t : List ℕ) → to ≤ from → region from to t ≡ []
    empty t h = let none : to - from ≡ 0 = omega arith in rw none

    by_order : (b : Bool) → ltb to from ≡ b → region from to s' ≡ region from to s
    by_order true e =
        let h : to ≤ from = omega (arith, ltb-true to from e) in
        empty s' h ∙ sym (empty s h)
    by_order false e =
        let h : from ≤ to = omega (arith, ltb-false to from e) in
        let fits' : to ≤ length s' = omega (arith, long) in
        let n' : length (region from to s') ≡ to - from = length_region from to s' h fits' in
        ext_get_or 0 (region from to s') (region from to s) (n' ∙ sym (length_region from to s h fits))
        (λ i inside.
        let in-region : from + i < to = omega (arith, inside, n') in
        region_word from to s' i in-region ∙ same (from + i) (omega arith) in-region ∙ sym (region_word from to s i in-region))

-- entries of types whose words are what they were
pub types_agree : (tree : ℕ → TypeDesc Text) (start : ℕ) (s s' : List ℕ) (base n : ℕ)
    → ((i : ℕ) → start + base * shared_width ≤ i → i < start + (base + n) * shared_width → get_or s' i 0 ≡ get_or s i 0)
    → types_from tree start s' base n ≡ types_from tree start s base n
unfolding types_from
types_agree tree start s s' base zero same = refl
types_agree tree start s s' base (suc n) same =
    let node = same (start + (base + n) * shared_width) (omega arith) (omega arith) in
    let offset = same (start + (base + n) * shared_width + 1) (omega arith) (omega arith) in
    let rest = types_agree tree start s s' base n (λ i low high. same i low (omega arith)) in
    λ j. (tree (node j), offset j) ∷ rest j

-- words outside a region
pub kept_same : (from to : ℕ) (s : List ℕ) → Kept from to s s
kept_same from to s = record { long = refl; before = λ i h. refl; after = λ i h. refl }

pub kept_then : {from to : ℕ} {s s₁ s₂ : List ℕ} → Kept from to s s₁ → Kept from to s₁ s₂ → Kept from to s s₂
kept_then p q = record { long = q.long ∙ p.long; before = λ i h. q.before i h ∙ p.before i h; after = λ i h. q.after i h ∙ p.after i h }

pub kept_wider : {from to from' to' : ℕ} {s s' : List ℕ} → from' ≤ from → to ≤ to' → Kept from to s s' → Kept from' to' s s'
kept_wider low high p = record { long = p.long; before = λ i h. p.before i (omega arith); after = λ i h. p.after i (omega arith) }

module _ {from to : ℕ} {s s' : List ℕ} (kept : Kept from to s s') where
  -- a region that ends before it, and one that begins after it
  pub region_kept_before : (a b : ℕ) → b ≤ from → b ≤ length s → region a b s' ≡ region a b s
  region_kept_before a b h fits = region_agree a b s s' kept.long fits (λ i low high. kept.before i (omega arith))

  pub region_kept_after : (a b : ℕ) → to ≤ a → b ≤ length s → region a b s' ≡ region a b s
  region_kept_after a b h fits = region_agree a b s s' kept.long fits (λ i low high. kept.after i (omega arith))

  pub types_kept_before : (tree : ℕ → TypeDesc Text) (start base n : ℕ) → start + (base + n) * shared_width ≤ from
      → types_from tree start s' base n ≡ types_from tree start s base n
  types_kept_before tree start base n h = types_agree tree start s s' base n (λ i low high. kept.before i (omega arith))

  pub types_kept_after : (tree : ℕ → TypeDesc Text) (start base n : ℕ) → to ≤ start → types_from tree start s' base n ≡ types_from tree start s base n
  types_kept_after tree start base n h = types_agree tree start s s' base n (λ i low high. kept.after i (omega arith))

-- a part that was lent, as the check of a call f(&mut s[a..b]) shows what it became
module _
    (s s' p : List ℕ) (a b : ℕ) (back : s' ≡ take a s ++ (p ++ drop (b - a) (drop a s)))
    (order : a ≤ b) (fits : b ≤ length s) (same : length p ≡ b - a) where
  front : length (take a s) ≡ a
  front = length-take-le a s (omega arith)

  pub lent_length : length s' ≡ length s
  lent_length =
      let after = length-append p (drop (b - a) (drop a s)) in
      ap length back
      ∙ omega (arith, length-append (take a s) (p ++ drop (b - a) (drop a s)), after, front, length-drop (b - a) (drop a s), length-drop a s)

  lent_before : (i : ℕ) → i < a → get_or s' i 0 ≡ get_or s i 0
  lent_before i h =
      ap (λ (l : List ℕ). get_or l i 0) back
      ∙ get_or-append (take a s) (p ++ drop (b - a) (drop a s)) 0 i (omega (arith, front))
      ∙ get_or-take a s i 0 h

  lent_after : (i : ℕ) → b ≤ i → get_or s' i 0 ≡ get_or s i 0
  lent_after i h =
      let e : i ≡ length (take a s) + (i - a) = omega (arith, front) in
      let f : i - a ≡ length p + (i - b) = omega (arith, same) in
      let g : a + (b - a + (i - b)) ≡ i = omega arith in
      ap (λ (l : List ℕ). get_or l i 0) back
      ∙ ap (λ (k : ℕ). get_or (take a s ++ (p ++ drop (b - a) (drop a s))) k 0) e
      ∙ get_or-append-add (take a s) (p ++ drop (b - a) (drop a s)) (i - a) 0
      ∙ ap (λ (k : ℕ). get_or (p ++ drop (b - a) (drop a s)) k 0) f
      ∙ get_or-append-add p (drop (b - a) (drop a s)) (i - b) 0
      ∙ get_or-drop (b - a) (drop a s) (i - b) 0
      ∙ get_or-drop a s (b - a + (i - b)) 0
      ∙ ap (λ (k : ℕ). get_or s k 0) g

  pub lent_kept : Kept a b s s'
  lent_kept = record { long = lent_length; before = lent_before; after = lent_after }

  pub lent_region : region a b s' ≡ p
  unfolding region
  lent_region =
      ap (λ (l : List ℕ). take (b - a) (drop a l)) back
      ∙ ap (take (b - a)) (drop_at (take a s) (p ++ drop (b - a) (drop a s)) a front)
      ∙ take_at p (drop (b - a) (drop a s)) (b - a) same
