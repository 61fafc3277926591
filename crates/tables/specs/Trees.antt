-- Vocabulary of internal contracts: no contract of an exported function and no demand cites it.
-- The type at a node of a table of types, built by walking the table; total: members end where the table ends, and below the last level a type has none.
-- Where the reflection is readable this is the type that decoding gives (proofs/Decoded.antt), so the code that walks the table needs no premise on it.
use Rattle.std.specs.Prelude.{Bool, true, false, List, ℕ, zero, suc, ◌+◌, length}
use Rattle.reflection.specs.declared.Text.{Text}
use Rattle.reflection.specs.Reflection.{TypeDesc, type_desc, Members, no_member, member}
use Rattle.tables.specs.Nodes.{Node}
use Rattle.tables.specs.Records.{type_width, type_at, holds_record}
use Rattle.tables.specs.Decode.{node_from_table}

-- How far a node may be at which a walk begins: the number of the node after it is then a word of 64 bits, for any table.
abbrev pub farthest_node : ℕ
farthest_node = 0x1000_0000_0000_0000

-- What was built, and the node after it.
pub record BuiltAt (A : Type 0) : Type 0 where
  pub it : A
  pub next : ℕ

unfoldable pub node_at : List ℕ → ℕ → Node Text
node_at types k = node_from_table (type_at types k)

-- Whether another member lies at node k, where n are left: members end where the table ends.
unfoldable pub has_member : List ℕ → ℕ → ℕ → Bool
has_member types zero k = false
has_member types (suc n) k = holds_record type_width (length types) k

-- n members from node k on, the type of each built by `build`.
unfoldable pub members_at : (ℕ → BuiltAt (TypeDesc Text)) → List ℕ → ℕ → ℕ → BuiltAt (Members Text)
members_at build types zero k = record { it = no_member; next = k }
members_at build types (suc n) k =
    elim (holds_record type_width (length types) k) [
      | true ↦ record {
        it = member (node_at types k).member_name (node_at types k).member_offset (build k).it (members_at build types n (build k).next).it;
        next = (members_at build types n (build k).next).next;
      }
      | false ↦ record { it = no_member; next = k }
    ]

-- The type at node k, with at most so many levels of members.
unfoldable pub tree_at : List ℕ → ℕ → ℕ → BuiltAt (TypeDesc Text)
tree_at types zero k = record { it = type_desc (node_at types k).numbers (node_at types k).name no_member; next = k + 1 }
tree_at types (suc levels) k = record {
  it = type_desc (node_at types k).numbers (node_at types k).name (members_at (tree_at types levels) types (node_at types k).member_count (k + 1)).it;
  next = (members_at (tree_at types levels) types (node_at types k).member_count (k + 1)).next;
}

-- The type at a node, without the node after it.
unfoldable pub type_tree : List ℕ → ℕ → ℕ → TypeDesc Text
type_tree types levels k = (tree_at types levels k).it

-- The members of the type at a node.
unfoldable pub members_of : List ℕ → ℕ → ℕ → Members Text
members_of types zero k = no_member
members_of types (suc levels) k = (members_at (tree_at types levels) types (node_at types k).member_count (k + 1)).it
