-- The tree at a node: its equations at the numbers that code has, and where the next node lies. Each follows the definition, by levels and members.
use mathlib.Core.Path.{◌≡◌, refl}
use mathlib.Core.Bool.{Bool, true, false}
use mathlib.Core.List.{List}
use Prim.Native.Nat.{ℕ, zero, suc, ◌+◌, ◌-◌, ◌/◌, ◌≤◌, ◌<◌}
use native.Mathlib.Omega.{arith}
use borrow.Author.Tests.{ltb-true}
use lib.Dec.{ltb}
use lib.ListN.{length}
use Rattle.reflection.specs.declared.Text.{Text}
use Rattle.reflection.specs.Reflection.{TypeDesc, type_desc, no_member, member}
use Rattle.tables.specs.Records.{type_width, holds_record}
use Rattle.tables.specs.Trees.{BuiltAt, node_at, has_member, members_at, tree_at, type_tree, members_of}

-- Without levels a type has no members.
pub tree_flat : (types : List ℕ) (levels k : ℕ) → levels ≡ 0
    → tree_at types levels k ≡ record { it = type_desc (node_at types k).numbers (node_at types k).name no_member; next = k + 1 }
unfolding tree_at
tree_flat types zero k e = refl
tree_flat types (suc levels) k e = absurd (omega (arith, e))

pub tree_deep : (types : List ℕ) (levels k : ℕ) → (levels ≡ 0 → ⊥)
    → tree_at types levels k
    ≡ record {
      it = type_desc (node_at types k).numbers (node_at types k).name (members_at (tree_at types (levels - 1)) types (node_at types k).member_count (k + 1)).it;
      next = (members_at (tree_at types (levels - 1)) types (node_at types k).member_count (k + 1)).next;
    }
unfolding tree_at
tree_deep types zero k h = absurd (h refl)
tree_deep types (suc levels) k h =
    let less : suc levels - 1 ≡ levels = omega arith in
    rw less

-- A type is its node and its members.
pub type_is : (types : List ℕ) (levels k : ℕ) → type_tree types levels k ≡ type_desc (node_at types k).numbers (node_at types k).name (members_of types levels k)
unfolding type_tree tree_at members_of
type_is types zero k = refl
type_is types (suc levels) k = refl

pub members_flat : (types : List ℕ) (levels k : ℕ) → levels ≡ 0 → members_of types levels k ≡ no_member
unfolding members_of
members_flat types zero k e = refl
members_flat types (suc levels) k e = absurd (omega (arith, e))

pub members_deep : (types : List ℕ) (levels k : ℕ) → (levels ≡ 0 → ⊥)
    → members_of types levels k ≡ (members_at (tree_at types (levels - 1)) types (node_at types k).member_count (k + 1)).it
unfolding members_of
members_deep types zero k h = absurd (h refl)
members_deep types (suc levels) k h =
    let less : suc levels - 1 ≡ levels = omega arith in
    rw less

module _ (types : List ℕ) where
  -- What code's test finds.
  pub no_member_lem : (n k : ℕ) → n ≡ 0 → has_member types n k ≡ false
  unfolding has_member
  no_member_lem zero k e = refl
  no_member_lem (suc n) k e = absurd (omega (arith, e))

  pub some_member : (n k : ℕ) → (n ≡ 0 → ⊥) → has_member types n k ≡ ltb k (length types / type_width)
  unfolding has_member holds_record
  some_member zero k h = absurd (h refl)
  some_member (suc n) k h = refl

  -- What `has_member` says.
  pub member_left : (n k : ℕ) → has_member types n k ≡ true → 0 < n
  unfolding has_member
  member_left zero k e = let z : ◌≡◌ {A = ℕ} 0 1 = cc in omega arith
  member_left (suc n) k e = omega arith

  pub member_inside : (n k : ℕ) → has_member types n k ≡ true → k < length types / type_width
  unfolding has_member holds_record
  member_inside zero k e = let z : ◌≡◌ {A = ℕ} 0 1 = cc in omega arith
  member_inside (suc n) k e = ltb-true k (length types / type_width) e

  module _ (build : ℕ → BuiltAt (TypeDesc Text)) where
    pub members_none : (n k : ℕ) → has_member types n k ≡ false → members_at build types n k ≡ record { it = no_member; next = k }
    unfolding members_at has_member
    members_none zero k e = refl
    members_none (suc n) k e = rw (e, members_at)

    pub members_more : (n k : ℕ) → has_member types n k ≡ true
        → members_at build types n k
        ≡ record {
          it = member (node_at types k).member_name (node_at types k).member_offset (build k).it (members_at build types (n - 1) (build k).next).it;
          next = (members_at build types (n - 1) (build k).next).next;
        }
    unfolding members_at has_member
    members_more zero k e = let z : ◌≡◌ {A = ℕ} 0 1 = cc in absurd (omega arith)
    members_more (suc n) k e =
        let less : suc n - 1 ≡ n = omega arith in
        rw (less, e, members_at)

    -- The next node is no earlier, and lies in the table.
    members_up : ((j : ℕ) → j + 1 ≤ (build j).next) → (n k : ℕ) → k ≤ (members_at build types n k).next
    unfolding members_at
    members_up up zero k = omega arith
    members_up up (suc n) k = go (holds_record type_width (length types) k) (members_up up n (build k).next) refl
      where
        go : (b : Bool) → (build k).next ≤ (members_at build types n (build k).next).next → holds_record type_width (length types) k ≡ b
            → k ≤ (members_at build types (suc n) k).next
        go true rest q = rw (q, members_at) (omega (arith, up k, rest))
        go false rest q = rw (q, members_at) (omega arith)

    members_in : ((j : ℕ) → j < length types / type_width → (build j).next ≤ length types / type_width) → (n k : ℕ) → k ≤ length types / type_width
        → (members_at build types n k).next ≤ length types / type_width
    unfolding members_at holds_record
    members_in inside zero k h = h
    members_in inside (suc n) k h = go (holds_record type_width (length types) k) (λ r. members_in inside n (build k).next r) refl
      where
        go : (b : Bool) → ((build k).next ≤ length types / type_width → (members_at build types n (build k).next).next ≤ length types / type_width)
            → holds_record type_width (length types) k ≡ b → (members_at build types (suc n) k).next ≤ length types / type_width
        go true rest q = rw (q, members_at) (rest (inside k (ltb-true k (length types / type_width) q)))
        go false rest q = rw (q, members_at) h

  pub tree_up : (levels k : ℕ) → k + 1 ≤ (tree_at types levels k).next
  unfolding tree_at
  tree_up zero k = omega arith
  tree_up (suc levels) k = members_up (tree_at types levels) (tree_up levels) (node_at types k).member_count (k + 1)

  pub tree_in : (levels k : ℕ) → k < length types / type_width → (tree_at types levels k).next ≤ length types / type_width
  unfolding tree_at
  tree_in zero k h = omega arith
  tree_in (suc levels) k h = members_in (tree_at types levels) (tree_in levels) (node_at types k).member_count (k + 1) (omega arith)

  pub members_past : (levels n k : ℕ) → k ≤ (members_at (tree_at types levels) types n k).next
  members_past levels n k = members_up (tree_at types levels) (tree_up levels) n k
