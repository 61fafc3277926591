-- Vocabulary of internal contracts: no contract of an exported function and no demand cites it.
-- What writing a chunk does: the scratch's pools begin empty, and the output then holds the canonical form of what the tables hold, or that is too long.
use Rattle.std.specs.Prelude.{◌≡◌, List, [], ◌⊎◌, ℕ, ◌<◌, length}
use Rattle.words.specs.Splice.{Put}
use Rattle.reflection.specs.declared.ResourceDef.{ResourceDef as Header}
use Rattle.reflection.specs.Contents.{contents}
use Rattle.write_spec.specs.Step.{pools}
use Rattle.write_spec.specs.Canonical.{canonical}
use Rattle.write_pool.specs.Pool.{entry_count}
use Rattle.write_texts.specs.Simulates.{chunk_limit}
use Rattle.write_texts.specs.Scratch.{outer_pool, inner_pool, default_pool, PoolsReady}
use Rattle.tables.specs.TableReflection.{reflection_in_tables}
use Rattle.write_tables.specs.Placed.{pools_sharing}

-- The pools of texts are in order and empty, and no type may be shared yet.
pub record PoolsBegun (s s' : List ℕ) : Type 0 where
  pub long : length s' ≡ length s
  pub ready : (chunk edits : List ℕ) → PoolsReady chunk edits s'
  pub none : (types : List ℕ) → pools_sharing types s' 0 0 ≡ pools [] [] [] [] []
  pub no_outer : entry_count (outer_pool s') ≡ 0
  pub no_inner : entry_count (inner_pool s') ≡ 0
  pub no_defaults : entry_count (default_pool s') ≡ 0

-- The chunk is too long, by the code's cursor and by the definition; the output is as long as it was.
pub record TooLong (bytes out out' : List ℕ) (r : ℕ) : Type 0 where
  pub reached : chunk_limit < r
  pub defined : chunk_limit < length bytes
  pub long : length out' ≡ length out

-- The chunk was written, or it is too long.
pub record ChunkWritten (chunk edits : List ℕ) (h : Header) (bindings buffers variables types s s' out out' : List ℕ) (r : ℕ) : Type 0 where
  pub written : Put out 0 (canonical (contents chunk edits (reflection_in_tables h bindings buffers variables types))) out' r
      ⊎ TooLong (canonical (contents chunk edits (reflection_in_tables h bindings buffers variables types))) out out' r
  pub long : length s' ≡ length s
