-- Vocabulary of internal contracts: no contract of an exported function and no demand cites it. A record in a chunk.
use Rattle.std.specs.Prelude.{◌≡◌, true, false, ℕ, ◌+◌, length}
use Rattle.words.specs.Parts.{inside}
use Rattle.reflection.specs.declared.refusal.Refusal.{Refusal}
use Rattle.reflection.specs.declared.refusal.Refusal.TheVariants.{RecordPastEnd}
use Rattle.read_types.specs.declared.chunk.Chunk.{Chunk}
use Rattle.read_types.specs.declared.chunk.Record.{Record}
use Rattle.read_types.specs.declared.chunk.Records.{Records}

-- The record lies there in the chunk.
pub record RecordAt (chunk : Chunk) (at size : ℕ) (r : Record) : Type 0 where
  pub bytes : r.chunk.bytes.now ≡ chunk.bytes.now
  pub sm5 : r.chunk.sm5 ≡ chunk.sm5
  pub wide : r.chunk.wide ≡ chunk.wide
  pub begins : r.at ≡ at
  pub fits : inside (length chunk.bytes.now) at size ≡ true

-- The next of the records was taken.
pub record Taken (before after : Records) (size : ℕ) (r : Record) : Type 0 where
  pub read : RecordAt before.chunk before.at size r
  pub chunk : after.chunk ≡ before.chunk
  pub at : after.at ≡ before.at + size

-- It runs past the chunk's end.
pub record RecordOutside (chunk : Chunk) (at size : ℕ) (e : Refusal) : Type 0 where
  pub refusal : e ≡ RecordPastEnd
  pub outside : inside (length chunk.bytes.now) at size ≡ false
