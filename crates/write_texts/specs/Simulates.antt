-- Vocabulary of internal contracts: no contract of an exported function and no demand cites it.
-- A step of canonical writing was run: from the cursor and the pools it answered its result, appended its bytes to the output, and left the pools that it
-- leaves; or the cursor is past the limit of a chunk. Names and defaults are places in the chunk or in the text of edits. The contracts of the code that
-- writes a chunk say this of each step.
use Rattle.std.specs.Prelude.{◌≡◌, List, map, ◌⊎◌, ℕ, ◌+◌, ◌<◌, length}
use Rattle.words.specs.Splice.{Put}
use Rattle.reflection.specs.declared.Text.{Text}
use Rattle.reflection.specs.Texts.{text_bytes}
pub use Rattle.reflection.specs.Limits.{chunk_limit}
use Rattle.write_spec.specs.Step.{Cell, TextFacts, Pools, WriteStep}
use Rattle.write_spec.specs.Canonical.{bytes_facts}
use Rattle.write_spec.specs.Through.{through, fill_through}

-- What the layout may know of places: how long the bytes are that lie there, and which are equal.
unfoldable pub text_facts : List ℕ → List ℕ → TextFacts Text Text
text_facts chunk edits = through (text_bytes chunk edits) (text_bytes chunk edits) bytes_facts

-- The bytes of cells.
unfoldable pub cell_bytes : List ℕ → List ℕ → List (Cell Text Text) → List ℕ
cell_bytes chunk edits cells = map (fill_through (text_bytes chunk edits) (text_bytes chunk edits)) cells

-- The step ran as it is defined.
pub record InStep (chunk edits : List ℕ) {A : Type 0} (step : WriteStep Text Text A) (at : ℕ) (ps : Pools Text Text)
    (out out' : List ℕ) (result : A) (to : ℕ) (ps' : Pools Text Text) : Type 0 where
  pub answered : (step at ps).result ≡ result
  pub put : Put out at (cell_bytes chunk edits (step at ps).cells) out' to
  pub pools_left : (step at ps).pools_after ≡ ps'

-- Past the limit the chunk is refused whatever follows: of a step it then counts only that the cursor is past the limit, in the code and in the definition, and
-- that the output is as long as it was. So the code need not look anything up there.
pub record PastLimit {A : Type 0} (step : WriteStep Text Text A) (at : ℕ) (ps : Pools Text Text) (out out' : List ℕ) (to : ℕ) : Type 0 where
  pub reached : chunk_limit < to
  pub defined : chunk_limit < at + length (step at ps).cells
  pub long : length out' ≡ length out

-- The step ran: as it is defined, or past the limit.
pub record Simulates (chunk edits : List ℕ) {A : Type 0} (step : WriteStep Text Text A) (at : ℕ) (ps : Pools Text Text)
    (out out' : List ℕ) (result : A) (to : ℕ) (ps' : Pools Text Text) : Type 0 where
  pub known : InStep chunk edits step at ps out out' result to ps' ⊎ PastLimit step at ps out out' to
