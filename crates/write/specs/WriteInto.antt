-- What the writer answers and leaves.
use Rattle.reflection.specs.Outcome.{Outcome}
use Rattle.std.specs.Prelude.{◌≡◌, List, ℕ, length}
use Rattle.reflection.specs.declared.ResourceDef.{ResourceDef as Header}
use Rattle.reflection.specs.Contents.{Bytes}
use Rattle.readable.specs.Readable.{table_contents}
use Rattle.text_output.specs.Written.{written_of, output_of, Written}
use Rattle.write_spec.specs.Outcome.{write}

-- What is written for a header, four tables and two buffers of texts, with this scratch and this output lent: only their lengths count.
abbrev pub write_into : List ℕ → Bytes → Bytes → Bytes → Header → List ℕ → List ℕ → List ℕ → List ℕ → Outcome Bytes
write_into scratch out chunk edits h bindings buffers variables types =
    write (length scratch) (length out) (table_contents chunk edits h bindings buffers variables types)

-- What writing leaves of an outcome: its answer, and what the output, which held `before`, holds after it.
pub record WrittenInto (outcome : Outcome Bytes) (before after : Bytes) (r : Written) : Type 0 where
  pub answer : r ≡ written_of outcome
  pub out : after ≡ output_of outcome before
