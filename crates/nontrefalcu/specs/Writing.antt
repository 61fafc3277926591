-- What the exported canonical writer answers, for a reflection whose header is given by its words (docs/ROOM.md has the layout).
use Rattle.reflection.specs.Outcome.{Outcome}
use Rattle.std.specs.Prelude.{List, ℕ, length}
use Rattle.readable.specs.Readable.{table_contents}
use Rattle.write_spec.specs.Outcome.{write}
use Rattle.nontrefalcu.specs.Exports.{header_at}

-- The canonical form of the reflection, for scratch and an output as long as these.
unfoldable pub canonical_into : List ℕ → List ℕ → List ℕ → List ℕ → List ℕ → List ℕ → List ℕ → List ℕ → List ℕ → Outcome (List ℕ)
canonical_into chunk edits header bindings buffers variables types scratch out =
    write (length scratch) (length out) (table_contents chunk edits (header_at header) bindings buffers variables types)
