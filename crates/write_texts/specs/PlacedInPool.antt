-- Vocabulary of internal contracts: no contract of an exported function and no demand cites it.
-- What placing a name or a default does to the pool that it is looked up in and to the output.
use Rattle.std.specs.Prelude.{◌≡◌, Bool, true, List, [], ◌∷◌, ◌++◌, ℕ, ◌+◌, ◌*◌, ◌≤◌, length, replicate}
use Rattle.reflection.specs.Limits.{chunk_limit}
use Rattle.reflection.specs.declared.Text.{Text}
use Rattle.write_spec.specs.Step.{TextFacts, Pools, pools, WriteStep, ◌>>=◌, append, add_to_pool, pad, padding_at, find, interned, cells_of}
use Rattle.write_spec.specs.Step.{default_byte}
use Rattle.write_spec.specs.Layout.{name_cells}
use Rattle.write_pool.specs.Pool.{Indexed, entries, entry_count, entries_start, entry_width}
use Rattle.write_texts.specs.Simulates.{Simulates}
use Rattle.write_texts.specs.Cursor.{Placement}
pub use Rattle.write_texts.specs.declared.text_pool.TextPool.{TextPool}
pub use Rattle.write_texts.specs.declared.text_pool.TextPool.TheVariants.{OuterNames, InnerNames, Defaults}

-- The chunk and the text of edits are no longer than a chunk may be.
pub record SourcesFit (chunk edits : List ℕ) : Type 0 where
  pub chunk_short : length chunk ≤ chunk_limit
  pub edits_short : length edits ≤ chunk_limit

-- How far the cursor may be where something is placed: its offset, after padding too, is then a word.
abbrev pub farthest_offset : ℕ
farthest_offset = 4000000000

-- How far placing a text moves the cursor at most: padding and a default, or a name and its NUL.
abbrev pub placed_limit : ℕ
placed_limit = chunk_limit + 4

-- A pool in order, with room for one entry more.
pub record HasRoom (chunk edits pool : List ℕ) : Type 0 where
  pub indexed : Indexed chunk edits pool
  pub room : entries_start + (entry_count pool + 1) * entry_width ≤ length pool
  pub short : length pool ≤ 4294967296

-- What a pool of texts holds, and the pools with its entries replaced.
abbrev pub entries_of : TextPool → Pools Text Text → List (Text × ℕ)
entries_of OuterNames ps = ps.outer_names
entries_of InnerNames ps = ps.inner_names
entries_of Defaults ps = ps.defaults

abbrev pub with_entries : TextPool → List (Text × ℕ) → Pools Text Text → Pools Text Text
with_entries OuterNames es ps = pools es ps.inner_names ps.types ps.member_types ps.defaults
with_entries InnerNames es ps = pools ps.outer_names es ps.types ps.member_types ps.defaults
with_entries Defaults es ps = pools ps.outer_names ps.inner_names ps.types ps.member_types es

-- The pools with one entry more in a pool of texts.
abbrev pub add_text : TextPool → Text → ℕ → Pools Text Text → Pools Text Text
add_text texts text offset ps = with_entries texts ((text, offset) ∷ entries_of texts ps) ps

-- Writes a name with its NUL, or a default after padding, and remembers its offset by `add`.
abbrev pub write_name : TextFacts Text Text → Text → (ℕ → Pools Text Text → Pools Text Text) → WriteStep Text Text ℕ
write_name O name add = do
  o ← append (name_cells O name)
  add_to_pool add o

abbrev pub write_default : TextFacts Text Text → Text → (ℕ → Pools Text Text → Pools Text Text) → WriteStep Text Text ℕ
write_default O default add = do
  _ ← pad
  o ← append (cells_of (O.default_length default) (default_byte default))
  add_to_pool add o

abbrev pub write_text : TextFacts Text Text → TextPool → Text → (ℕ → Pools Text Text → Pools Text Text) → WriteStep Text Text ℕ
write_text O OuterNames name = write_name O name
write_text O InnerNames name = write_name O name
write_text O Defaults default = write_default O default

abbrev pub same_text : TextFacts Text Text → TextPool → Text → Text → Bool
same_text O OuterNames name = O.same_name name
same_text O InnerNames name = O.same_name name
same_text O Defaults default = O.same_default default

-- A text placed through its pool: Layout.antt's place_outer_name and place_inner_name, and of a default that is not empty its place_default.
abbrev pub place_text : TextFacts Text Text → TextPool → Text → WriteStep Text Text ℕ
place_text O texts text = interned true (λ ps. find (same_text O texts text) (entries_of texts ps)) (write_text O texts text (add_text texts text))

-- The same in bytes: what is written for a text at the cursor, and its offset.
abbrev pub text_written : TextPool → ℕ → List ℕ → List ℕ
text_written OuterNames at bytes = bytes ++ (0 ∷ [])
text_written InnerNames at bytes = bytes ++ (0 ∷ [])
text_written Defaults at bytes = replicate (padding_at at) 0xab ++ bytes

abbrev pub text_start : TextPool → ℕ → ℕ
text_start OuterNames at = at
text_start InnerNames at = at
text_start Defaults at = at + padding_at at

-- A pool stayed in order and as long as it was, and has at most one entry more.
pub record Grown (chunk edits pool pool' : List ℕ) : Type 0 where
  pub indexed : Indexed chunk edits pool'
  pub long : length pool' ≡ length pool
  pub count_low : entry_count pool ≤ entry_count pool'
  pub count_high : entry_count pool' ≤ entry_count pool + 1

-- A text was placed: its step ran, and its pool is now what the words hold.
pub record PlacedInPool (chunk edits : List ℕ) (texts : TextPool) (step : WriteStep Text Text ℕ) (at : ℕ) (pool pool' out out' : List ℕ)
    (r : Placement) : Type 0 where
  pub ran : (ps : Pools Text Text) → entries_of texts ps ≡ entries pool
      → Simulates chunk edits step at ps out out' r.offset r.at (with_entries texts (entries pool') ps)
  pub pool_grown : Grown chunk edits pool pool'
  pub near_low : at ≤ r.at
  pub near_high : r.at ≤ at + placed_limit
