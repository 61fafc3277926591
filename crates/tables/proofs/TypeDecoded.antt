-- Where decoding builds a type from the nodes of a table, it is the tree at its first node, and what is left are the nodes after it: both go through
-- the nodes in the same order, and decoding's tests only stop it.
use Rattle.std.proofs.lemmas.Option.{same_Some, none-some}
use Rattle.std.specs.Prelude.{Some}
use mathlib.Core.Path.{◌≡◌, refl, sym, ap, subst, ◌∙◌}
use mathlib.Core.Bool.{true}
use mathlib.Core.List.{List, map}
use Prim.Native.Nat.{ℕ, zero, suc, ◌+◌, ◌-◌, ◌/◌, ◌≤◌, ◌<◌}
use native.Mathlib.Numerals.{add-one}
use native.Mathlib.Omega.{arith}
use borrow.Author.Tests.{lt-ltb}
use lib.ListN.{length}
use Rattle.reflection.specs.declared.Text.{Text}
use Rattle.reflection.specs.Reflection.{type_desc, Members, no_member, member}
use Rattle.tables.specs.Nodes.{Node, Built, ◌>>=◌, members_from_nodes, type_from_nodes}
use Rattle.tables.specs.Records.{type_width, type_at, holds_record}
use Rattle.tables.specs.Decode.{records_from, node_from_table}
use Rattle.tables.proofs.Options.{then_was}
use Rattle.tables.specs.Trees.{BuiltAt, node_at, has_member, members_at, tree_at, type_tree}
use Rattle.tables.proofs.Trees.{members_more}

-- The nodes k to k + m - 1 of a table.
abbrev pub nodes_from : List ℕ → ℕ → ℕ → List (Node Text)
nodes_from types k m = map node_from_table (records_from (type_at types) k m)

-- What was built from m nodes from node k on is the type at node k, and what is left are the nodes after it.
pub record TypeDecoded (types : List ℕ) (levels k m : ℕ) (b : Built Text) : Type 0 where
  pub type : type_tree types levels k ≡ b.type
  pub member_name : (node_at types k).member_name ≡ b.member_name
  pub member_offset : (node_at types k).member_offset ≡ b.member_offset
  pub within : (tree_at types levels k).next ≤ k + m
  pub left : b.left ≡ nodes_from types (tree_at types levels k).next (k + m - (tree_at types levels k).next)

record MembersDecoded (types : List ℕ) (levels n k m : ℕ) (r : Members Text × List (Node Text)) : Type 0 where
  members : (members_at (tree_at types levels) types n k).it ≡ r.0
  within : (members_at (tree_at types levels) types n k).next ≤ k + m
  left : r.1 ≡ nodes_from types (members_at (tree_at types levels) types n k).next (k + m - (members_at (tree_at types levels) types n k).next)

-- Nothing is built from no nodes.
some_nodes : (types : List ℕ) (levels k m : ℕ) (b : Built Text) → type_from_nodes levels (nodes_from types k m) ≡ Some b → 0 < m
unfolding type_from_nodes records_from
some_nodes types zero k m b e = absurd (none-some b e)
some_nodes types (suc levels) k zero b e = absurd (none-some b e)
some_nodes types (suc levels) k (suc m) b e = omega arith

module _ (types : List ℕ) where
  abbrev Decodes : ℕ → Type 0
  Decodes levels = (k m : ℕ) (b : Built Text) → k + m ≤ length types / type_width → type_from_nodes levels (nodes_from types k m) ≡ Some b
      → TypeDecoded types levels k m b

  holds : (n k : ℕ) → k < length types / type_width → has_member types (suc n) k ≡ true
  unfolding has_member holds_record
  holds n k h = lt-ltb k (length types / type_width) h

  none_decoded : (levels k m : ℕ) → MembersDecoded types levels 0 k m (no_member, nodes_from types k m)
  unfolding members_at
  none_decoded levels k m =
      let rest : k + m - k ≡ m = omega arith in
      record { members = refl; within = omega arith; left = ap (nodes_from types k) (sym rest) }

  -- One member and the others.
  module _ (levels n k m : ℕ) (fits : k + m ≤ length types / type_width) (t : Built Text) (ms : Members Text × List (Node Text))
      (some_left : 0 < m) (first : TypeDecoded types levels k m t)
      (others : MembersDecoded types levels n (tree_at types levels k).next (k + m - (tree_at types levels k).next) ms) where
    more-is : members_at (tree_at types levels) types (suc n) k
        ≡ record {
          it = member (node_at types k).member_name (node_at types k).member_offset (tree_at types levels k).it
              (members_at (tree_at types levels) types n (tree_at types levels k).next).it;
          next = (members_at (tree_at types levels) types n (tree_at types levels k).next).next;
        }
    more-is =
        let less : suc n - 1 ≡ n = omega arith in
        subst
        (λ (j : ℕ). members_at (tree_at types levels) types (suc n) k
        ≡ record {
          it = member (node_at types k).member_name (node_at types k).member_offset (tree_at types levels k).it
              (members_at (tree_at types levels) types j (tree_at types levels k).next).it;
          next = (members_at (tree_at types levels) types j (tree_at types levels k).next).next;
        }) less (members_more types (tree_at types levels) (suc n) k (holds n k (omega arith)))

    next_is : (members_at (tree_at types levels) types (suc n) k).next ≡ (members_at (tree_at types levels) types n (tree_at types levels k).next).next
    next_is = ap (λ (w : BuiltAt (Members Text)). w.next) more-is

    same_end : (tree_at types levels k).next + (k + m - (tree_at types levels k).next) ≡ k + m
    same_end = omega (arith, first.within)

    more_decoded : MembersDecoded types levels (suc n) k m (member t.member_name t.member_offset t.type ms.0, ms.1)
    unfolding type_tree
    more_decoded = record {
      members =
          ap (λ (w : BuiltAt (Members Text)). w.it) more-is
          ∙ (λ i. member (first.member_name i) (first.member_offset i) (first.type i) (others.members i));
      within = omega (arith, next_is, others.within, same_end);
      left =
          others.left
          ∙ (λ i. nodes_from types (sym next_is i) (same_end i - sym next_is i));
    }

  members_decoded : (levels : ℕ) → Decodes levels → (n k m : ℕ) (r : Members Text × List (Node Text)) → k + m ≤ length types / type_width
      → members_from_nodes (type_from_nodes levels) n (nodes_from types k m) ≡ Some r → MembersDecoded types levels n k m r
  unfolding members_from_nodes
  members_decoded levels decodes zero k m r fits e =
      subst (MembersDecoded types levels 0 k m) (same_Some (no_member, nodes_from types k m) r e) (none_decoded levels k m)
  members_decoded levels decodes (suc n) k m r fits e =
      let w = then_was (type_from_nodes levels (nodes_from types k m))
      (λ t. members_from_nodes (type_from_nodes levels) n t.left >>= (λ ms. Some (member t.member_name t.member_offset t.type ms.0, ms.1))) r e in
      let t : Built Text = w.0 in
      let first : TypeDecoded types levels k m t = decodes k m t fits w.1 in
      let v = then_was (members_from_nodes (type_from_nodes levels) n t.left)
      (λ ms. Some (member t.member_name t.member_offset t.type ms.0, ms.1)) r w.2 in
      let others = members_decoded levels decodes n (tree_at types levels k).next (k + m - (tree_at types levels k).next) v.0 (omega (arith, first.within))
      (ap (members_from_nodes (type_from_nodes levels) n) (sym first.left) ∙ v.1) in
      subst (MembersDecoded types levels (suc n) k m) (same_Some _ r v.2)
      (more_decoded levels n k m fits t v.0 (some_nodes types levels k m t w.1) first others)

  -- A type and its members.
  type_built : (levels k m : ℕ) (r : Members Text × List (Node Text)) → MembersDecoded types levels (node_at types k).member_count (k + 1) m r
      → TypeDecoded types (suc levels) k (suc m)
      (record {
        type = type_desc (node_at types k).numbers (node_at types k).name r.0;
        member_name = (node_at types k).member_name;
        member_offset = (node_at types k).member_offset;
        left = r.1;
      })
  unfolding type_tree tree_at
  type_built levels k m r decoded =
      let same_end : k + 1 + m ≡ k + suc m = omega arith in
      let next : ℕ = (members_at (tree_at types levels) types (node_at types k).member_count (k + 1)).next in
      record {
        type = λ i. type_desc (node_at types k).numbers (node_at types k).name (decoded.members i);
        member_name = refl;
        member_offset = refl;
        within = omega (arith, decoded.within);
        left = decoded.left ∙ ap (λ (end : ℕ). nodes_from types next (end - next)) same_end;
      }

  pub type_decoded : (levels : ℕ) → Decodes levels
  unfolding type_from_nodes records_from node_at
  type_decoded zero k m b fits e = absurd (none-some b e)
  type_decoded (suc levels) k zero b fits e = absurd (none-some b e)
  type_decoded (suc levels) k (suc m) b fits e =
      let w = then_was (members_from_nodes (type_from_nodes levels) (node_at types k).member_count (nodes_from types (suc k) m))
      (λ ms. Some (record {
        type = type_desc (node_at types k).numbers (node_at types k).name ms.0;
        member_name = (node_at types k).member_name;
        member_offset = (node_at types k).member_offset;
        left = ms.1;
      })) b e in
      let members : MembersDecoded types levels (node_at types k).member_count (suc k) m w.0 =
      members_decoded levels (type_decoded levels) (node_at types k).member_count (suc k) m w.0 (omega (arith, fits)) w.1 in
      subst (TypeDecoded types (suc levels) k (suc m)) (same_Some _ b w.2)
      (type_built levels k m w.0 (subst (λ (j : ℕ). MembersDecoded types levels (node_at types k).member_count j m w.0) (sym (add-one k)) members))
