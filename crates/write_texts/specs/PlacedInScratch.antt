-- Vocabulary of internal contracts: no contract of an exported function and no demand cites it.
-- What placing a name or a default does to the scratch: the pool that it is looked up in changes, and no word outside that pool's region.
use Rattle.std.specs.Prelude.{◌≡◌, List, ℕ, ◌+◌, ◌-◌, ◌/◌, ◌≤◌, ◌<◌, length, get_or}
use Rattle.reflection.specs.declared.Text.{Text}
use Rattle.reflection.specs.Reflection.{TypeDesc}
use Rattle.write_spec.specs.Step.{WriteStep}
use Rattle.write_pool.specs.Pool.{entries_start, entry_width, entry_count}
use Rattle.write_texts.specs.Simulates.{Simulates}
use Rattle.write_texts.specs.PlacedInPool.{placed_limit, TextPool, OuterNames, InnerNames, Defaults}
use Rattle.write_texts.specs.Scratch.{outer_size, inner_size, defaults_size, inner_start, defaults_start, root_types_start, region, PoolsReady}
use Rattle.write_texts.specs.Scratch.{pools_in}
use Rattle.write_texts.specs.Cursor.{Placement}

-- How many entries a pool of so many words has room for: 1,433, 8,396 and 2,252 (docs/ROOM.md).
abbrev pub pool_room : ℕ → ℕ
pool_room size = (size - entries_start) / entry_width

abbrev pub outer_room : ℕ
outer_room = pool_room outer_size

abbrev pub inner_room : ℕ
inner_room = pool_room inner_size

abbrev pub default_room : ℕ
default_room = pool_room defaults_size

-- The region of the scratch that a pool of texts stands in: where it begins and ends, and its words.
abbrev pub start_of : TextPool → ℕ
start_of OuterNames = 0
start_of InnerNames = inner_start
start_of Defaults = defaults_start

abbrev pub end_of : TextPool → ℕ
end_of OuterNames = inner_start
end_of InnerNames = defaults_start
end_of Defaults = root_types_start

abbrev pub room_of : TextPool → ℕ
room_of texts = pool_room (end_of texts - start_of texts)

abbrev pub words_of : TextPool → List ℕ → List ℕ
words_of texts s = region (start_of texts) (end_of texts) s

-- The words outside a region are what they were, and there are as many.
pub record Kept (from to : ℕ) (s s' : List ℕ) : Type 0 where
  pub long : length s' ≡ length s
  pub before : (i : ℕ) → i < from → get_or s' i 0 ≡ get_or s i 0
  pub after : (i : ℕ) → to ≤ i → get_or s' i 0 ≡ get_or s i 0

-- A step that places a text ran from the pools in the scratch to those that are there now. The pool that it is looked up in is `pool`, its region from..to.
pub record TextPlaced (chunk edits : List ℕ) (step : WriteStep Text Text ℕ) (at : ℕ)
    (pool : List ℕ → List ℕ) (from to : ℕ) (s s' out out' : List ℕ) (r : Placement) : Type 0 where
  pub ran : (types : List (TypeDesc Text × ℕ)) (tree : ℕ → TypeDesc Text) (base n : ℕ)
      → Simulates chunk edits step at (pools_in s types tree base n) out out' r.offset r.at (pools_in s' types tree base n)
  pub ready : PoolsReady chunk edits s'
  pub kept : Kept from to s s'
  pub count_low : entry_count (pool s) ≤ entry_count (pool s')
  pub count_high : entry_count (pool s') ≤ entry_count (pool s) + 1
  pub near_low : at ≤ r.at
  pub near_high : r.at ≤ at + placed_limit
