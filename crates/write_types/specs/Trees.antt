-- Vocabulary of internal contracts: no contract of an exported function and no demand cites it.
-- The members of a type with so many levels, and the types of its members (crate compare_types).
use Rattle.std.specs.Prelude.{List, ℕ, ◌-◌}
use Rattle.reflection.specs.declared.Text.{Text}
use Rattle.reflection.specs.Reflection.{TypeDesc, Members}
use Rattle.tables.specs.Trees.{BuiltAt, members_at, tree_at, type_tree}

-- The type at a node, where it is that of a member.
abbrev pub member_tree : List ℕ → ℕ → ℕ → TypeDesc Text
member_tree types levels node = type_tree types (levels - 1) node

-- `count` members, the first at a node, and the node after them.
abbrev pub members_from : List ℕ → ℕ → ℕ → ℕ → BuiltAt (Members Text)
members_from types levels count node = members_at (tree_at types (levels - 1)) types count node
