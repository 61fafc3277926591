-- Vocabulary of internal contracts: no contract of an exported function and no demand cites it.
-- What placing sections and buffers needs and does: the step that ran, what of the scratch stays, and how far the cursor went.
use Rattle.std.specs.Prelude.{◌≡◌, Bool, List, ℕ, ◌+◌, ◌*◌, ◌≤◌, ◌<◌, length, get_or}
use Rattle.tables.specs.Decode.{records_from}
use Rattle.reflection.specs.Limits.{type_room, variable_room, buffer_room}
use Rattle.write_spec.specs.Layout.{place_section, place_sections, place_buffers}
use Rattle.write_pool.specs.Pool.{entry_count}
use Rattle.write_texts.specs.Cursor.{Placement}
use Rattle.write_texts.specs.Cursor.{WriteCursor}
use Rattle.write_texts.specs.Simulates.{Simulates, text_facts}
use Rattle.write_texts.specs.Scratch.{buffer_offsets_width, buffers_start, outer_pool, inner_pool, default_pool, PoolsReady}
use Rattle.write_texts.specs.PlacedInScratch.{outer_room}
use Rattle.write_types.specs.Room.{node_bytes}
use Rattle.tables.specs.TableReflection.{root_at, count_at, first_variable, buffer_in_table}
use Rattle.write_tables.specs.Offsets.{buffer_name, buffer_section}
use Rattle.write_tables.specs.Placed.{pools_at}
use Rattle.write_tables.specs.VariablesPlaced.{CursorBounds, VariablesAdvance}

-- There is room for the variables of the first `count` buffers and for their nodes.
pub record CountsFit (buffers types : List ℕ) (count : ℕ) : Type 0 where
  pub few_variables : first_variable buffers count ≤ variable_room
  pub few_nodes : root_at types (first_variable buffers count) ≤ type_room

-- The section of a buffer can be placed, whose first variable is `variable`: the cursor is at that variable's node, and there is room.
pub record SectionReady (chunk edits buffers types : List ℕ) (buffer variable : ℕ) (cursor : WriteCursor) (s : List ℕ) : Type 0 where
  pub pools : PoolsReady chunk edits s
  pub bounds : CursorBounds variable 100000 cursor s
  pub first : variable ≡ first_variable buffers buffer
  pub root : cursor.node ≡ root_at types variable
  pub fit : CountsFit buffers types (buffer + 1)
  pub few_buffers : buffer < buffer_room

-- The section of a buffer was placed: its variables. Of what lies after the variables' offsets only where the section begins was stored.
pub record SectionPlaced (chunk edits buffers variables types : List ℕ) (sm5 : Bool) (buffer : ℕ) (from : WriteCursor)
    (s s' out out' : List ℕ) (to : WriteCursor) : Type 0 where
  pub ran : Simulates chunk edits (place_section (text_facts chunk edits) sm5 (buffer_in_table buffers variables types buffer))
      from.at (pools_at types s from) out out' (buffer_section buffers s' buffer) to.at (pools_at types s' to)
  pub advance : VariablesAdvance chunk edits types (first_variable buffers buffer) (count_at buffers buffer) from to s s'
  pub others : (i : ℕ) → buffers_start ≤ i → (i ≡ buffers_start + buffer * buffer_offsets_width + 1 → ⊥) → get_or s' i 0 ≡ get_or s i 0
  pub near : to.at + from.node * node_bytes ≤ from.at + 4 + to.node * node_bytes

-- The cursor before the first section: no node is passed and no type may be shared.
abbrev pub beginning : ℕ → WriteCursor
beginning at = record { at = at; node = 0; member_types = 0; root_types = 0 }

-- The sections of the first `count` buffers can be placed: the cursor has passed no node.
pub record SectionsReady (chunk edits buffers types : List ℕ) (count : ℕ) (cursor : WriteCursor) (s : List ℕ) : Type 0 where
  pub pools : PoolsReady chunk edits s
  pub no_types : cursor ≡ beginning cursor.at
  pub bounds : CursorBounds 0 200000 (beginning cursor.at) s
  pub fit : CountsFit buffers types count
  pub few_buffers : count ≤ buffer_room

-- The sections of the first `count` buffers were placed. The offsets of the buffers' names stay.
pub record SectionsPlaced (chunk edits buffers variables types : List ℕ) (sm5 : Bool) (count at : ℕ)
    (s s' out out' : List ℕ) (to : WriteCursor) : Type 0 where
  pub ran : Simulates chunk edits (place_sections (text_facts chunk edits) sm5 (records_from (buffer_in_table buffers variables types) 0 count))
      at (pools_at types s (beginning at)) out out' (records_from (buffer_section buffers s') 0 count) to.at (pools_at types s' to)
  pub advance : VariablesAdvance chunk edits types 0 (first_variable buffers count) (beginning at) to s s'
  pub names_kept : (i : ℕ) → buffer_name s' i ≡ buffer_name s i
  pub near : to.at ≤ at + count * 4 + to.node * node_bytes

-- No inner name and no default is placed yet, and there is room for the names of `count` buffers.
pub record NothingPlaced (count at : ℕ) (s : List ℕ) : Type 0 where
  pub no_names : entry_count (inner_pool s) ≤ 0
  pub no_defaults : entry_count (default_pool s) ≤ 0
  pub names_room : entry_count (outer_pool s) + count ≤ outer_room
  pub output : at ≤ 2800000000

-- The first `count` buffers can be placed: the cursor has passed no node.
pub record BuffersReady (chunk edits buffers types : List ℕ) (count : ℕ) (cursor : WriteCursor) (s : List ℕ) : Type 0 where
  pub pools : PoolsReady chunk edits s
  pub no_types : cursor ≡ beginning cursor.at
  pub nothing : NothingPlaced count cursor.at s
  pub fit : CountsFit buffers types count
  pub few_buffers : count ≤ buffer_room

-- The buffers were placed; `after` is the cursor after their sections.
pub record BuffersPlaced (chunk edits buffers variables types : List ℕ) (sm5 : Bool) (count at : ℕ)
    (s s' out out' : List ℕ) (r : Placement) : Type 0 where
  pub after : WriteCursor
  pub ran : Simulates chunk edits (place_buffers (text_facts chunk edits) sm5 (records_from (buffer_in_table buffers variables types) 0 count))
      at (pools_at types s (beginning at)) out out' (r.offset, records_from (λ i. (buffer_name s' i, buffer_section buffers s' i)) 0 count)
      r.at (pools_at types s' after)
  pub ready : PoolsReady chunk edits s'
  pub long : length s' ≡ length s
  pub names : entry_count (inner_pool s') ≤ type_room * 2
  pub near : r.at ≤ 3900000000
