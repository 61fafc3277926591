-- Equal types, as the code's tests follow it: the first part that differs decides, and where all agree the rest does.
use mathlib.Core.Path.{◌≡◌, refl, sym, ap, ◌∙◌}
use mathlib.Core.Bool.{Bool, true, false, ◌&&◌, not}
use mathlib.Core.List.{List}
use Prim.Native.Nat.{ℕ, ◌+◌, ◌-◌}
use borrow.Author.Tests.{eq-eqb, ne_eqb}
use lib.Dec.{eqb}
use Rattle.text.specs.Same.{same_bytes}
use Rattle.reflection.specs.declared.Text.{Text}
use Rattle.reflection.specs.declared.TypeDesc.{TypeDesc as TypeRecord}
use Rattle.reflection.specs.Reflection.{TypeDesc, Members, no_member}
use Rattle.tables.specs.Records.{type_at}
use Rattle.tables.specs.Decode.{node_from_table}
use Rattle.write_spec.specs.Same.{numbers_of, same_type, same_members}
use Rattle.tables.specs.Trees.{BuiltAt, node_at, has_member, members_at, tree_at, type_tree, members_of}
use Rattle.tables.proofs.Trees.{tree_deep, type_is, members_flat, members_deep, member_left, member_inside, members_none, members_more}

and-false : (b : Bool) → (b && false) ≡ false
and-false true = refl
and-false false = refl

-- The type at node a of one table and the type at node b of another, whose records are x and y.
module _ (same : Text → Text → Bool) (types others : List ℕ) (levels a b : ℕ) {x y : TypeRecord}
    (is_x : x ≡ type_at types a) (is_y : y ≡ type_at others b) where
  abbrev equal_types : Bool
  equal_types = same_type same (type_tree types levels a) (type_tree others levels b)

  parts : equal_types
      ≡ same_bytes (numbers_of (node_from_table x).numbers) (numbers_of (node_from_table y).numbers)
      && (same x.name y.name && same_members same (members_of types levels a) (members_of others levels b))
  unfolding same_type node_at node_from_table
  parts =
      (λ i. same_type same (type_is types levels a i) (type_is others levels b i))
      ∙ (λ i. same_bytes (numbers_of (node_from_table (sym is_x i)).numbers) (numbers_of (node_from_table (sym is_y i)).numbers)
      && (same (sym is_x i).name (sym is_y i).name && same_members same (members_of types levels a) (members_of others levels b)))

  pub other_numbers : same_bytes (numbers_of (node_from_table x).numbers) (numbers_of (node_from_table y).numbers) ≡ false → equal_types ≡ false
  other_numbers e = parts ∙ rw e

  module _ (numbers : same_bytes (numbers_of (node_from_table x).numbers) (numbers_of (node_from_table y).numbers) ≡ true) where
    pub other_names : same x.name y.name ≡ false → equal_types ≡ false
    other_names e = parts ∙ rw (numbers, e)

    module _ (names : same x.name y.name ≡ true) where
      by_members : equal_types ≡ same_members same (members_of types levels a) (members_of others levels b)
      by_members = parts ∙ rw (numbers, names)

      pub equal_flat : levels ≡ 0 → equal_types ≡ true
      unfolding same_members
      equal_flat e = by_members ∙ (λ i. same_members same (members_flat types levels a e i) (members_flat others levels b e i))

      pub equal_deep : (levels ≡ 0 → ⊥)
          → equal_types
          ≡ same_members same (members_at (tree_at types (levels - 1)) types x.member_count (a + 1)).it
          (members_at (tree_at others (levels - 1)) others y.member_count (b + 1)).it
      unfolding node_at node_from_table
      equal_deep h =
          by_members
          ∙ (λ i. same_members same (members_deep types levels a h i) (members_deep others levels b h i))
          ∙ (λ i. same_members same (members_at (tree_at types (levels - 1)) types (sym is_x i).member_count (a + 1)).it
          (members_at (tree_at others (levels - 1)) others (sym is_y i).member_count (b + 1)).it)

-- Nodes whose numbers differ are not of equal types.
pub other_nodes : (same : Text → Text → Bool) (types others : List ℕ) (levels a b : ℕ)
    → same_bytes (numbers_of (node_at types a).numbers) (numbers_of (node_at others b).numbers) ≡ false
    → same_type same (type_tree types levels a) (type_tree others levels b) ≡ false
unfolding node_at
other_nodes same types others levels a b = other_numbers same types others levels a b refl refl

-- The node after a type whose record is x is the one after its members.
pub next_deep : (types : List ℕ) (levels k : ℕ) {x : TypeRecord} → x ≡ type_at types k → (levels ≡ 0 → ⊥)
    → (tree_at types levels k).next ≡ (members_at (tree_at types (levels - 1)) types x.member_count (k + 1)).next
unfolding node_at node_from_table
next_deep types levels k is_x h =
    ap (λ (w : BuiltAt (TypeDesc Text)). w.next) (tree_deep types levels k h)
    ∙ (λ i. (members_at (tree_at types (levels - 1)) types (sym is_x i).member_count (k + 1)).next)

pub ruleset type_tests = (other_numbers, other_names, equal_flat, equal_deep)

-- m members from node a of one table on and n from node b of another on.
module _ (same : Text → Text → Bool) (types others : List ℕ) (levels m a n b : ℕ) where
  abbrev equal_members : Bool
  equal_members = same_members same (members_at (tree_at types levels) types m a).it (members_at (tree_at others levels) others n b).it

  pub equal_ends : has_member types m a ≡ false → equal_members ≡ not (has_member others n b)
  unfolding same_members
  equal_ends e =
      ap (λ (w : BuiltAt (Members Text)). same_members same w.it (members_at (tree_at others levels) others n b).it)
      (members_none types (tree_at types levels) m a e)
      ∙ go (has_member others n b) refl
    where
      go : (t : Bool) → has_member others n b ≡ t → same_members same no_member (members_at (tree_at others levels) others n b).it ≡ not t
      go true q = ap (λ (w : BuiltAt (Members Text)). same_members same no_member w.it) (members_more others (tree_at others levels) n b q)
      go false q = ap (λ (w : BuiltAt (Members Text)). same_members same no_member w.it) (members_none others (tree_at others levels) n b q)

  module _ (here : has_member types m a ≡ true) where
    pub other_count : has_member others n b ≡ false → equal_members ≡ false
    unfolding same_members
    other_count e = λ i. same_members same (members_more types (tree_at types levels) m a here i).it (members_none others (tree_at others levels) n b e i).it

    -- Both have a member, whose records are x and y.
    module _ (there : has_member others n b ≡ true) {x y : TypeRecord} (is_x : x ≡ type_at types a) (is_y : y ≡ type_at others b) where
      member_parts : equal_members
          ≡ same x.member_name y.member_name
          && (eqb x.member_offset y.member_offset
          && (same_type same (type_tree types levels a) (type_tree others levels b)
          && same_members same (members_at (tree_at types levels) types (m - 1) (tree_at types levels a).next).it
          (members_at (tree_at others levels) others (n - 1) (tree_at others levels b).next).it))
      unfolding same_members node_at node_from_table type_tree
      member_parts =
          (λ i. same_members same (members_more types (tree_at types levels) m a here i).it (members_more others (tree_at others levels) n b there i).it)
          ∙ (λ i. same (sym is_x i).member_name (sym is_y i).member_name
          && (eqb (sym is_x i).member_offset (sym is_y i).member_offset
          && (same_type same (tree_at types levels a).it (tree_at others levels b).it
          && same_members same (members_at (tree_at types levels) types (m - 1) (tree_at types levels a).next).it
          (members_at (tree_at others levels) others (n - 1) (tree_at others levels b).next).it)))

      pub other_offset : (x.member_offset ≡ y.member_offset → ⊥) → equal_members ≡ false
      other_offset d = member_parts ∙ rw (ne_eqb x.member_offset y.member_offset d) (and-false (same x.member_name y.member_name))

      pub other_member_name : same x.member_name y.member_name ≡ false → equal_members ≡ false
      other_member_name e = member_parts ∙ rw e

      module _ (offset : x.member_offset ≡ y.member_offset) (name : same x.member_name y.member_name ≡ true) where
        pub other_type : same_type same (type_tree types levels a) (type_tree others levels b) ≡ false → equal_members ≡ false
        other_type e = member_parts ∙ rw (name, eq-eqb x.member_offset y.member_offset offset, e)

        pub equal_onward : {next next' : ℕ} → same_type same (type_tree types levels a) (type_tree others levels b) ≡ true
            → next ≡ (tree_at types levels a).next → next' ≡ (tree_at others levels b).next
            → equal_members ≡ same_members same (members_at (tree_at types levels) types (m - 1) next).it
            (members_at (tree_at others levels) others (n - 1) next').it
        equal_onward e is-next is-next' =
            member_parts
            ∙ rw (name, eq-eqb x.member_offset y.member_offset offset, e) (λ i.
            same_members same (members_at (tree_at types levels) types (m - 1) (sym is-next i)).it
            (members_at (tree_at others levels) others (n - 1) (sym is-next' i)).it)

pub ruleset member_tests = (equal_ends, other_count, other_offset, other_member_name, other_type, equal_onward, member_left, member_inside)

pub ruleset skip_tests = (member_left, member_inside, members_none, members_more)
