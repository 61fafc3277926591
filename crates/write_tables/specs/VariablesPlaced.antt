-- Vocabulary of internal contracts: no contract of an exported function and no demand cites it.
-- What placing variables needs and does: the step that ran, what of the scratch stays, and how far pools and cursor went.
use Rattle.std.specs.Prelude.{◌≡◌, Bool, List, ℕ, ◌+◌, ◌*◌, ◌≤◌, ◌<◌, length, get_or}
use Rattle.tables.specs.Decode.{records_from}
use Rattle.reflection.specs.Limits.{type_room, variable_room}
use Rattle.write_spec.specs.Layout.{place_variable, place_variables}
use Rattle.write_pool.specs.Pool.{entry_count}
use Rattle.write_texts.specs.Cursor.{WriteCursor}
use Rattle.write_texts.specs.Simulates.{Simulates, text_facts}
use Rattle.write_texts.specs.Scratch.{variable_offsets_width, variables_start, buffers_start, inner_pool, default_pool, PoolsReady}
use Rattle.write_types.specs.Room.{node_bytes}
use Rattle.tables.specs.TableReflection.{root_at, variable_in_table}
use Rattle.write_tables.specs.Offsets.{variable_offsets}
use Rattle.write_tables.specs.Placed.{pools_at}

-- The variables before `variable` and the nodes before the cursor's are placed: how far the output is, with `spare` bytes to come, and how many names,
-- defaults, types of members and of variables the pools have.
pub record CursorBounds (variable spare : ℕ) (cursor : WriteCursor) (s : List ℕ) : Type 0 where
  pub output : cursor.at + spare ≤ 2900000000 + cursor.node * node_bytes
  pub names : entry_count (inner_pool s) ≤ cursor.node * 2
  pub defaults : entry_count (default_pool s) ≤ variable
  pub stacked : cursor.member_types ≤ cursor.node
  pub rooted : cursor.root_types ≤ variable

-- `count` variables from `variable` on can be placed: the cursor is at the first one's node, and there is room for all of them.
pub record VariablesReady (chunk edits types : List ℕ) (variable count : ℕ) (cursor : WriteCursor) (s : List ℕ) : Type 0 where
  pub pools : PoolsReady chunk edits s
  pub bounds : CursorBounds variable 0 cursor s
  pub root : cursor.node ≡ root_at types variable
  pub few_nodes : root_at types (variable + count) ≤ type_room
  pub few_variables : variable + count ≤ variable_room

-- `count` variables from `variable` on were placed: the cursor went on past their nodes. The words that hold the offsets of the variables before them stay.
pub record VariablesAdvance (chunk edits types : List ℕ) (variable count : ℕ) (from to : WriteCursor) (s s' : List ℕ) : Type 0 where
  pub ready : PoolsReady chunk edits s'
  pub long : length s' ≡ length s
  pub earlier : (i : ℕ) → variables_start ≤ i → i < variables_start + variable * variable_offsets_width → get_or s' i 0 ≡ get_or s i 0
  pub next : to.node ≡ root_at types (variable + count)
  pub forward : from.node ≤ to.node
  pub names : entry_count (inner_pool s') + from.node * 2 ≤ entry_count (inner_pool s) + to.node * 2
  pub defaults : entry_count (default_pool s') ≤ entry_count (default_pool s) + count
  pub stacked : to.member_types + from.node ≤ from.member_types + to.node
  pub rooted : to.root_types ≤ from.root_types + count

-- A variable was placed. What lies after the variables' offsets stays.
pub record VariablePlaced (chunk edits variables types : List ℕ) (sm5 share : Bool) (variable : ℕ) (from : WriteCursor)
    (s s' out out' : List ℕ) (to : WriteCursor) : Type 0 where
  pub ran : Simulates chunk edits (place_variable (text_facts chunk edits) sm5 share (variable_in_table variables types variable))
      from.at (pools_at types s from) out out' (variable_offsets s' variable) to.at (pools_at types s' to)
  pub advance : VariablesAdvance chunk edits types variable 1 from to s s'
  pub later : (i : ℕ) → buffers_start ≤ i → get_or s' i 0 ≡ get_or s i 0
  pub near : to.at + from.node * node_bytes + 1900 ≤ from.at + to.node * node_bytes

-- `count` variables from `variable` on were placed.
pub record VariablesPlaced (chunk edits variables types : List ℕ) (sm5 share : Bool) (variable count : ℕ) (from : WriteCursor)
    (s s' out out' : List ℕ) (to : WriteCursor) : Type 0 where
  pub ran : Simulates chunk edits (place_variables (text_facts chunk edits) sm5 share (records_from (variable_in_table variables types) variable count))
      from.at (pools_at types s from) out out' (records_from (variable_offsets s') variable count) to.at (pools_at types s' to)
  pub advance : VariablesAdvance chunk edits types variable count from to s s'
  pub later : (i : ℕ) → buffers_start ≤ i → get_or s' i 0 ≡ get_or s i 0
  pub near : to.at + from.node * node_bytes + count * 1900 ≤ from.at + to.node * node_bytes
