-- A type as nodes in walk order, each before those of its members, and back (document 01, "Port order and changed shapes").
use Rattle.std.specs.Prelude.{List, [], ◌∷◌, ◌++◌, ℕ, zero, suc, Option, None, Some}
use Rattle.reflection.specs.Reflection.{TypeNumbers, TypeDesc, type_desc, Members, no_member, member, member_count}
pub use Rattle.reflection.specs.Limits.{type_levels}

-- A node: a type's numbers, how many members follow, its name, and the name and offset that it has as a member (of a root: none).
pub record Node (N : Type 0) : Type 0 where
  pub numbers : TypeNumbers
  pub member_count : ℕ
  pub name : N
  pub member_name : N
  pub member_offset : ℕ

unfoldable mutual
  pub nodes_of : {N : Type 0} → N → ℕ → TypeDesc N → List (Node N)
  nodes_of mn mo (type_desc k n ms) = record { numbers = k; member_count = member_count ms; name = n; member_name = mn; member_offset = mo } ∷ nodes_of_members ms

  pub nodes_of_members : {N : Type 0} → Members N → List (Node N)
  nodes_of_members no_member = []
  nodes_of_members (member n o t ms) = nodes_of n o t ++ nodes_of_members ms

-- A type built from nodes, what it is as a member, and the nodes that are left.
pub record Built (N : Type 0) : Type 0 where
  pub type : TypeDesc N
  pub member_name : N
  pub member_offset : ℕ
  pub left : List (Node N)

infixl 20 ◌>>=◌
unfoldable pub ◌>>=◌ : {A B : Type 0} → Option A → (A → Option B) → Option B
◌>>=◌ (Some a) f = f a
◌>>=◌ None f = None

-- n members from the nodes that are left; `build` builds one type.
unfoldable pub members_from_nodes : {N : Type 0} → (List (Node N) → Option (Built N)) → ℕ → List (Node N) → Option (Members N × List (Node N))
members_from_nodes build zero xs = Some (no_member, xs)
members_from_nodes build (suc n) xs = do
  t ← build xs
  ms ← members_from_nodes build n t.left
  Some (member t.member_name t.member_offset t.type ms.0, ms.1)

-- The type whose node comes first, of at most so many levels.
unfoldable pub type_from_nodes : {N : Type 0} → ℕ → List (Node N) → Option (Built N)
type_from_nodes zero xs = None
type_from_nodes (suc levels) [] = None
type_from_nodes (suc levels) (x ∷ xs) = do
  ms ← members_from_nodes (type_from_nodes levels) x.member_count xs
  Some (record { type = type_desc x.numbers x.name ms.0; member_name = x.member_name; member_offset = x.member_offset; left = ms.1 })
