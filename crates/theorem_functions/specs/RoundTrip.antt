-- ROUND TRIP (document 01, demand 2), of the functions themselves: the contract of `write_read_write` (src/lib.rt), which calls `write_rdef_canonical`,
-- `parse_rdef` on the written bytes, and `write_rdef_canonical` on what was read.
--
-- In plain words. Whatever chunk, text of edits, header, tables, scratch and outputs are lent: the reflection is refused, with zeros in scratch and both
-- outputs; or n bytes are written and read, and then what was read holds every field, name and default that the lent tables hold; and it is written again as
-- n bytes, the same ones, where the second output has room for n, else refused as too long for that output.
--
-- Definitions that this rests on: `table_contents`, what tables hold, every field with names and defaults by their bytes (crates/readable/specs/Readable.antt);
-- `write`, which says when a reflection is refused (crates/write_spec/specs/Outcome.antt); what was lent and what is left: Calls.antt. proofs/RoundTrip.antt
-- proves it.
use Rattle.reflection.specs.Outcome.{Outcome}
use Rattle.reflection.specs.declared.refusal.Refusal.{Refusal}
use Rattle.reflection.specs.declared.refusal.Refusal.TheVariants.{OutputTooSmall}
use Rattle.std.specs.Prelude.{◌≡◌, [], ℕ, ◌<◌, ◌≤◌, length, take, drop, replicate, Some, Ok, Err}
use Rattle.reflection.specs.declared.Text.{Text}
use Rattle.reflection.specs.declared.ResourceDef.{ResourceDef as Header}
use Rattle.reflection.specs.Reflection.{ResourceDef}
use Rattle.reflection.specs.Contents.{Bytes, contents}
use Rattle.read_spec.specs.Step.{full_room}
use Rattle.read_spec.specs.Read.{read}
use Rattle.readable.specs.Readable.{table_contents}
use Rattle.text_output.specs.Written.{written_of, output_of}
use Rattle.write_spec.specs.Outcome.{write}
use Rattle.theorem_functions.specs.declared.WrittenTwice.{WrittenTwice}
use Rattle.theorem_functions.specs.Calls.{Lent, Left, reflection_in, form, WroteAndRead, wrote}

-- What writing again comes to, with so much scratch and output: the written bytes are the chunk of what was read, and nothing is edited.
abbrev pub written_again : ℕ → ℕ → Bytes → Outcome (ResourceDef Text Text) → Outcome Bytes
written_again scratch room bytes (Ok found) = write scratch room (Some (contents bytes [] found))
written_again scratch room bytes (Err e) = Err e

unfoldable pub again : ℕ → ℕ → Outcome Bytes → Outcome Bytes
again scratch room (Ok bytes) = written_again scratch room bytes (read full_room bytes)
again scratch room (Err e) = Err e

-- The second writing: n bytes, the same ones, in an output that has room for them; else 17 and zeros.
pub record SameAgain (n : ℕ) (first before after : Bytes) (answer : WrittenTwice) : Type 0 where
  pub with_room : n ≤ length before → (answer.again ≡ Ok n) × ((take n after ≡ take n first) × (drop n after ≡ drop n before))
  pub without_room : length before < n → (answer.again ≡ Err OutputTooSmall) × (after ≡ replicate (length before) 0)

-- The lent tables' reflection was refused, or written and restored. `second` is the second output before, `second-after` after the call.
pub data FieldsRestored (l : Lent) (after : Left) (second second-after : Bytes) (answer : WrittenTwice) : Type 0 where
  refused_first :
      (e : Refusal) → answer.first ≡ Err e → answer.again ≡ Err e → after.out ≡ replicate (length l.out) 0
      → second-after ≡ replicate (length second) 0 → FieldsRestored l after second second-after answer
  restored :
      (n : ℕ) (found : Header) → answer.first ≡ wrote n (Ok found)
      → table_contents (take n after.out) [] found after.found_bindings after.found_buffers after.found_variables after.found_types
      ≡ reflection_in l
      → SameAgain n after.out second second-after answer → FieldsRestored l after second second-after answer

-- What `write_read_write` answers and leaves: of the first writing what `write_and_read` does, of the second the answer and the output; and demand 2.
pub record RoundTrip (l : Lent) (after : Left) (second second-after : Bytes) (answer : WrittenTwice) : Type 0 where
  pub first : WroteAndRead l after answer.first
  pub answer_again : answer.again ≡ written_of (again (length l.scratch) (length second) (form l))
  pub out_again : second-after ≡ output_of (again (length l.scratch) (length second) (form l)) second
  pub demand : FieldsRestored l after second second-after answer
