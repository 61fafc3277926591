-- Vocabulary of internal contracts: no contract of an exported function and no demand cites it.
-- Room in the scratch while types are placed, and what of the scratch stays as it was. A node adds at most two names, an entry to the types and a record
-- to the members' records, so all nodes that there is room for fit (docs/ROOM.md).
use Rattle.std.specs.Prelude.{◌≡◌, List, ℕ, ◌+◌, ◌*◌, ◌≤◌, ◌<◌, length, get_or}
use Rattle.write_pool.specs.Pool.{entry_count}
use Rattle.reflection.specs.Limits.{type_room}
use Rattle.write_texts.specs.Cursor.{WriteCursor}
use Rattle.write_texts.specs.Scratch.{member_width, shared_width, inner_start, defaults_start, member_types_start, records_start, variables_start}
use Rattle.write_texts.specs.Scratch.{inner_pool}
use Rattle.write_texts.specs.Scratch.{PoolsReady}
use Rattle.write_texts.specs.PlacedInPool.{placed_limit}
use Rattle.tables.specs.Trees.{tree_at}
use Rattle.write_types.specs.Trees.{members_from}

-- The most bytes that a node adds to the output, and how many of them its type leaves to its name as a member or a variable and to a default.
abbrev pub node_bytes : ℕ
node_bytes = 200000

abbrev pub spare_bytes : ℕ
spare_bytes = 133000

-- The nodes before this one are placed, and `named` more names (the one that this node has as a member or a variable): how far the cursor is, how many names
-- the pool has, how many types lie on the stack of members' types, and where the stack of records ends.
pub record NodeRoom (s : List ℕ) (node named at entries records-top : ℕ) : Type 0 where
  pub cursor : at ≤ 3000000000 + node * node_bytes + named * placed_limit
  pub names : entry_count (inner_pool s) ≤ 200 + node * 2 + named
  pub stacked : entries ≤ node
  pub records_low : records_start ≤ records-top
  pub records_high : records-top ≤ records_start + node * member_width

-- What placing or writing the type at the cursor's node begins with: the pools are in order, and there is room for all nodes of the type. The
-- types of members are the cursor's from entry `base` on.
pub record TypeReady (chunk edits types : List ℕ) (levels base records-top : ℕ) (cursor : WriteCursor) (s : List ℕ) : Type 0 where
  pub ready : PoolsReady chunk edits s
  pub room : NodeRoom s cursor.node 1 cursor.at (base + cursor.member_types) records-top
  pub within : (tree_at types levels cursor.node).next ≤ type_room

-- The same for `count` members, the first at the cursor's node, of a type with so many levels: without levels there are none.
pub record MembersReady (chunk edits types : List ℕ) (levels count base records-top : ℕ) (cursor : WriteCursor) (s : List ℕ) : Type 0 where
  pub ready : PoolsReady chunk edits s
  pub room : NodeRoom s cursor.node 0 cursor.at (base + cursor.member_types) records-top
  pub within : (members_from types levels count cursor.node).next ≤ type_room
  pub flat : levels ≡ 0 → count ≡ 0

-- The words that placing a type leaves as they were: all but the names, the members' types above the first `entries` and the records above word `records-top`.
pub record Keeps (s s' : List ℕ) (entries records-top : ℕ) : Type 0 where
  pub long : length s' ≡ length s
  pub outer : (j : ℕ) → j < inner_start → get_or s' j 0 ≡ get_or s j 0
  pub middle : (j : ℕ) → defaults_start ≤ j → j < member_types_start + entries * shared_width → get_or s' j 0 ≡ get_or s j 0
  pub records : (j : ℕ) → records_start ≤ j → j < records-top → get_or s' j 0 ≡ get_or s j 0
  pub high : (j : ℕ) → variables_start ≤ j → get_or s' j 0 ≡ get_or s j 0
