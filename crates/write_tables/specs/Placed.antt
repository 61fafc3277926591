-- Vocabulary of internal contracts: no contract of an exported function and no demand cites it.
-- What the functions of this crate do: the step that ran, what the scratch then holds, and how far pools and cursor went.
use Rattle.std.specs.Prelude.{◌≡◌, List, ℕ, ◌+◌, ◌*◌, ◌-◌, ◌≤◌, ◌<◌, length, get_or}
use Rattle.reflection.specs.declared.Text.{Text}
use Rattle.tables.specs.Nodes.{type_levels}
use Rattle.tables.specs.Records.{record_word, text_at}
use Rattle.tables.specs.Decode.{records_from}
use Rattle.write_spec.specs.Step.{Pools}
use Rattle.write_spec.specs.Layout.{place_outer_names}
use Rattle.write_pool.specs.Pool.{entry_count}
use Rattle.write_texts.specs.Cursor.{WriteCursor}
use Rattle.write_texts.specs.Simulates.{Simulates, text_facts}
use Rattle.write_texts.specs.Scratch.{inner_start, root_types_start, variables_start, scratch_size, outer_pool, types_from, pools_in, PoolsReady}
use Rattle.write_texts.specs.PlacedInPool.{farthest_offset, placed_limit}
use Rattle.write_texts.specs.PlacedInScratch.{outer_room}
use Rattle.tables.specs.Trees.{type_tree}

-- The pools in the scratch, where so many types of variables and of members may be shared: by their counts, and where the writer stands.
unfoldable pub pools_sharing : List ℕ → List ℕ → ℕ → ℕ → Pools Text Text
pools_sharing types s roots members =
    pools_in s (types_from (type_tree types type_levels) root_types_start s 0 roots) (type_tree types (type_levels - 1)) 0 members

abbrev pub pools_at : List ℕ → List ℕ → WriteCursor → Pools Text Text
pools_at types s cursor = pools_sharing types s cursor.root_types cursor.member_types

-- The words from one place up to another are what they were, and there are as many words.
pub record Same (from to : ℕ) (s s' : List ℕ) : Type 0 where
  pub long : length s' ≡ length s
  pub words : (i : ℕ) → from ≤ i → i < to → get_or s' i 0 ≡ get_or s i 0

-- The name that record i of a table of bindings or buffers begins with.
unfoldable pub name_at : ℕ → List ℕ → ℕ → Text
name_at width table i = text_at (record_word width table i) 0

-- What stands in the scratch for record i, at every `step` words from `start` on.
unfoldable pub stored_at : ℕ → ℕ → List ℕ → ℕ → ℕ
stored_at start step s i = get_or s (start + i * step) 0

-- The names of `count` bindings or buffers can be placed, and there is room for their offsets.
pub record NamesReady (chunk edits : List ℕ) (count start step at : ℕ) (s : List ℕ) : Type 0 where
  pub pools : PoolsReady chunk edits s
  pub stored : variables_start ≤ start
  pub apart : 1 ≤ step
  pub inside : start + count * step ≤ scratch_size
  pub entries : entry_count (outer_pool s) + count ≤ outer_room
  pub output : at + count * placed_limit ≤ farthest_offset

-- The names of `count` bindings or buffers were placed, and their offsets stand in the scratch.
pub record NamesPlaced (chunk edits : List ℕ) (names : ℕ → Text) (count start step at : ℕ) (s s' out out' : List ℕ) (to : ℕ) : Type 0 where
  pub ran : (types : List ℕ)
      → Simulates chunk edits (place_outer_names (text_facts chunk edits) (records_from names 0 count)) at (pools_sharing types s 0 0)
      out out' (records_from (stored_at start step s') 0 count) to (pools_sharing types s' 0 0)
  pub ready : PoolsReady chunk edits s'
  pub same : Same inner_start start s s'
  pub entries : entry_count (outer_pool s') ≤ entry_count (outer_pool s) + count
  pub near : to ≤ at + count * placed_limit
