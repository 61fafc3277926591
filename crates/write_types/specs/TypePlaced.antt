-- Vocabulary of internal contracts: no contract of an exported function and no demand cites it.
-- What the functions that place a type leave: which step ran, and what was used of the room.
use Rattle.std.specs.Prelude.{◌≡◌, Bool, true, ◌&&◌, List, ℕ, ◌+◌, ◌*◌, ◌-◌, ◌≤◌, eqb, ltb, cond, length, get_or, Option, Some}
use Rattle.reflection.specs.declared.Text.{Text}
use Rattle.reflection.specs.Reflection.{TypeNumbers, TypeDesc, member_count}
use Rattle.write_spec.specs.Step.{Pools, find, in_member_pool}
use Rattle.write_spec.specs.Same.{same_type}
use Rattle.write_spec.specs.Layout.{place_type, place_members}
use Rattle.write_pool.specs.Pool.{entry_count}
use Rattle.write_texts.specs.Simulates.{text_facts, chunk_limit, Simulates}
use Rattle.write_texts.specs.Scratch.{member_width, root_types_start, variables_start, region, outer_pool, inner_pool, default_pool, types_from}
use Rattle.write_texts.specs.Scratch.{pools_in, PoolsReady}
use Rattle.write_texts.specs.Cursor.{Placement}
use Rattle.write_texts.specs.Cursor.{WriteCursor}
use Rattle.tables.specs.Trees.{node_at, tree_at, type_tree}
use Rattle.compare_types.specs.Same.{same_name}
use Rattle.write_types.specs.Trees.{member_tree, members_from}
use Rattle.write_types.specs.Writing.{write_tree, append_records, close_type, only_if}
use Rattle.write_types.specs.Room.{node_bytes, spare_bytes, Keeps}
use Rattle.write_types.specs.Placed.{PlacedType, PlacedMembers}

-- The offset of a type equal to that at `node`, among `count` entries of a region.
unfoldable pub type_offset : List ℕ → List ℕ → List ℕ → ℕ → ℕ → List ℕ → ℕ → ℕ → ℕ → Option ℕ
type_offset chunk edits types levels node s start base count =
    find (same_type (same_name chunk edits) (type_tree types levels node)) (types_from (type_tree types levels) start s base count)

-- The same where the type may be shared: an array's never is.
unfoldable pub shared_offset : Bool → List ℕ → List ℕ → List ℕ → ℕ → ℕ → List ℕ → ℕ → ℕ → ℕ → Option ℕ
shared_offset share chunk edits types levels node s start base count =
    only_if (share && eqb (node_at types node).numbers.elements 0) (type_offset chunk edits types levels node s start base count)

-- The offset where the type is not to be written: that of an equal type, or 0 where the output's cursor is past a chunk's limit.
unfoldable pub known_offset : Bool → List ℕ → List ℕ → List ℕ → ℕ → ℕ → List ℕ → ℕ → ℕ → ℕ → ℕ → Option ℕ
known_offset share chunk edits types levels node s start base count at =
    cond (ltb chunk_limit at) (Some 0) (shared_offset share chunk edits types levels node s start base count)

-- The records of `count` members were written.
pub record RecordsPut (records : List ℕ) (at : ℕ) (out out' : List ℕ) (r : Placement) : Type 0 where
  pub ran : (chunk edits : List ℕ) (ps : Pools Text Text) (count : ℕ) → length records ≡ member_width * count
      → Simulates chunk edits (append_records count records) at ps out out' r.offset r.at ps
  pub near : r.at ≤ at + 3 + 4 * length records

-- The records of `count` members and the descriptor were written.
pub record TypePut (sm5 : Bool) (k : TypeNumbers) (name : ℕ) (records : List ℕ) (at : ℕ) (out out' : List ℕ) (r : Placement) : Type 0 where
  pub ran : (chunk edits : List ℕ) (ps : Pools Text Text) (count : ℕ) → length records ≡ member_width * count
      → Simulates chunk edits (close_type sm5 k count name records) at ps out out' r.offset r.at ps
  pub near : r.at ≤ at + 4 * length records + 42

-- What the nodes from the cursor `from` up to the cursor `to` used of the room: so many entries, names and bytes of the first node's share are left, for its
-- use as a member or a variable.
pub record Advanced (chunk edits : List ℕ) (from to : WriteCursor) (entries-left names-left bytes_left : ℕ) (s s' : List ℕ) : Type 0 where
  pub ready : PoolsReady chunk edits s'
  pub more : from.member_types ≤ to.member_types
  pub stacked : to.member_types + from.node + entries-left ≤ from.member_types + to.node
  pub names : entry_count (inner_pool s') + from.node * 2 + names-left ≤ entry_count (inner_pool s) + to.node * 2
  pub near : to.at + from.node * node_bytes + bytes_left ≤ from.at + to.node * node_bytes

-- The type at the cursor's node was written, whatever the types among which it was looked up. Its members' types are the cursor's from `base` on.
pub record TypeWritten (chunk edits types : List ℕ) (sm5 : Bool) (levels base records-top : ℕ) (cursor : WriteCursor)
    (s s' out out' : List ℕ) (r : PlacedType) : Type 0 where
  pub ran : (ts : List (TypeDesc Text × ℕ))
      → Simulates chunk edits (write_tree (text_facts chunk edits) sm5 (type_tree types levels cursor.node)) cursor.at
      (pools_in s ts (member_tree types levels) base cursor.member_types) out out' r.offset r.cursor.at
      (pools_in s' ts (member_tree types levels) base r.cursor.member_types)
  pub next : r.cursor.node ≡ (tree_at types levels cursor.node).next
  pub advanced : Advanced chunk edits cursor r.cursor 1 1 spare_bytes s s'
  pub keeps : Keeps s s' (base + cursor.member_types) records-top
  pub same_roots : r.cursor.root_types ≡ cursor.root_types

-- The type at the cursor's node was placed as a member's: found among the cursor's types of members from `base` on, or written, and then it is one entry more.
pub record MemberTypePlaced (chunk edits types : List ℕ) (sm5 : Bool) (levels base records-top : ℕ) (cursor : WriteCursor)
    (s s' out out' : List ℕ) (r : PlacedType) : Type 0 where
  pub ran : (ts : List (TypeDesc Text × ℕ))
      → Simulates chunk edits (in_member_pool (place_type (text_facts chunk edits) sm5 true (type_tree types levels cursor.node))) cursor.at
      (pools_in s ts (type_tree types levels) base cursor.member_types) out out' r.offset r.cursor.at
      (pools_in s' ts (type_tree types levels) base r.cursor.member_types)
  pub next : r.cursor.node ≡ (tree_at types levels cursor.node).next
  pub advanced : Advanced chunk edits cursor r.cursor 0 1 spare_bytes s s'
  pub keeps : Keeps s s' (base + cursor.member_types) records-top
  pub same_roots : r.cursor.root_types ≡ cursor.root_types
  pub one : r.cursor.member_types ≤ cursor.member_types + 1

-- `count` members were placed, the first at the cursor's node, of a type with so many levels: their records' words lie on the stack from `records-top` on.
pub record MembersPlaced (chunk edits types : List ℕ) (sm5 : Bool) (levels count base records-top : ℕ) (cursor : WriteCursor) (s s' out out' : List ℕ)
    (r : PlacedMembers) : Type 0 where
  pub ran : (ts : List (TypeDesc Text × ℕ))
      → Simulates chunk edits (place_members (text_facts chunk edits) sm5 (members_from types levels count cursor.node).it) cursor.at
      (pools_in s ts (member_tree types levels) base cursor.member_types) out out' (region records-top r.records_top s') r.cursor.at
      (pools_in s' ts (member_tree types levels) base r.cursor.member_types)
  pub next : r.cursor.node ≡ (members_from types levels count cursor.node).next
  pub advanced : Advanced chunk edits cursor r.cursor 0 0 ((r.records_top - records-top) * 4) s s'
  pub keeps : Keeps s s' (base + cursor.member_types) records-top
  pub same_roots : r.cursor.root_types ≡ cursor.root_types
  pub pushed : r.records_top ≡ records-top + member_width * member_count (members_from types levels count cursor.node).it
  pub records : r.records_top + cursor.node * member_width ≤ records-top + r.cursor.node * member_width

-- The type at the cursor's node was placed as a variable's: found among the cursor's types of variables, or written, and then it is one entry more if it may
-- be shared. The cursor's types of members are those of all variables.
pub record RootTypePlaced (chunk edits types : List ℕ) (sm5 share : Bool) (levels : ℕ) (cursor : WriteCursor)
    (s s' out out' : List ℕ) (r : PlacedType) : Type 0 where
  pub ran : Simulates chunk edits (place_type (text_facts chunk edits) sm5 share (type_tree types levels cursor.node)) cursor.at
      (pools_in s (types_from (type_tree types levels) root_types_start s 0 cursor.root_types) (member_tree types levels) 0 cursor.member_types)
      out out' r.offset r.cursor.at
      (pools_in s' (types_from (type_tree types levels) root_types_start s' 0 r.cursor.root_types) (member_tree types levels) 0 r.cursor.member_types)
  pub next : r.cursor.node ≡ (tree_at types levels cursor.node).next
  pub advanced : Advanced chunk edits cursor r.cursor 1 1 spare_bytes s s'
  pub long : length s' ≡ length s
  pub high : (j : ℕ) → variables_start ≤ j → get_or s' j 0 ≡ get_or s j 0
  pub outer_same : outer_pool s' ≡ outer_pool s
  pub defaults_same : default_pool s' ≡ default_pool s
  pub roots_more : cursor.root_types ≤ r.cursor.root_types
  pub one_root : r.cursor.root_types ≤ cursor.root_types + 1
