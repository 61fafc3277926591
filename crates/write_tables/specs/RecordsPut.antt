-- Vocabulary of internal contracts: no contract of an exported function and no demand cites it. The writer before and after records are written.
use Rattle.std.specs.Prelude.{◌≡◌, List, ℕ, ◌+◌, ◌≤◌, length}
use Rattle.words.specs.Splice.{Put}
use Rattle.write_texts.specs.Bytes.{joined_bytes}
use Rattle.write_texts.specs.PlacedInPool.{farthest_offset}
use Rattle.write_texts.specs.Scratch.{scratch_size}
use Rattle.write_texts.specs.Writer.{SameTypes}
use Rattle.write_texts.specs.declared.writer.Writer.{Writer}

-- The records before the one at `next` can be written: their offsets stand in the scratch, and the cursor has `spare` bytes to come.
pub record RecordsReady (next room spare : ℕ) (w : Writer) : Type 0 where
  pub long : scratch_size ≤ length w.scratch.now
  pub few : next ≤ room
  pub near : w.out.now.at + spare ≤ farthest_offset

-- The bytes of these words stand at the cursor and the cursor after them, and nothing else changed.
pub record WordsPut (words : List ℕ) (before after : Writer) : Type 0 where
  pub put : Put before.out.now.bytes.now before.out.now.at (joined_bytes words) after.out.now.bytes.now after.out.now.at
  pub scratch : after.scratch.now ≡ before.scratch.now
  pub same : SameTypes before after
