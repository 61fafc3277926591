-- ROUND TRIP OF THE EXPORTED FUNCTIONS (document 01, demand 2): of `nontrefalcu_write_canonical` and `nontrefalcu_parse_rdef`, what
-- crates/theorem_functions/specs/RoundTrip.antt says of the functions that they call, with answers as numbers.
--
-- In plain words. A side calls the writer and, where it answers 0, `parse_rdef` on the written bytes (`Side`, Calls.antt). The writer refuses, with zeros; or
-- it answers 0 and the length n, what was read holds every field, name and default that the lent tables hold, and any call of the writer on what was read,
-- with as much scratch and output, answers 0 and n again and writes the same n bytes.
--
-- Definitions that this rests on: `table_contents` (crates/readable/specs/Readable.antt) and Calls.antt. proofs/RoundTrip.antt proves it.
use Rattle.reflection.specs.declared.refusal.Refusal.{Refusal}
use Rattle.std.specs.Prelude.{◌≡◌, [], ◌∷◌, ℕ, length as size, take}
use Rattle.readable.specs.Readable.{table_contents}
use Rattle.nontrefalcu.specs.Exports.{header_at}
use Rattle.theorem_functions.specs.Calls.{reflection_in}
use Rattle.theorem_exports.specs.Calls.{WordsLent, WordsLeft, WriteCall, Side, lent_by}
use Rattle.theorem_exports.specs.Noninterference.{RefusedExport}

-- What a second call of the writer is lent: what was read, and as much scratch, output and length.
pub record LentAgain (s : Side) (n : ℕ) (l : WordsLent) : Type 0 where
  pub chunk : l.chunk ≡ take n s.wrote.out
  pub edits : l.edits ≡ []
  pub header : l.header ≡ s.found.header
  pub bindings : l.bindings ≡ s.found.bindings
  pub buffers : l.buffers ≡ s.found.buffers
  pub variables : l.variables ≡ s.found.variables
  pub types : l.types ≡ s.found.types
  pub scratch : size l.scratch ≡ size s.given.scratch
  pub out : size l.out ≡ size s.given.out
  pub length : size l.length ≡ 1

-- It answers 0 and n, and writes the same bytes.
pub record SameBytesAgain (s : Side) (n : ℕ) (after : WordsLeft) : Type 0 where
  pub answer : after.number ≡ 0
  pub length_is : after.length ≡ n ∷ []
  pub same_bytes : take n after.out ≡ take n s.wrote.out

-- n bytes were written and read, with all restored.
pub record RestoredExport (s : Side) (n : ℕ) : Type 0 where
  pub answer : s.wrote.number ≡ 0
  pub length_is : s.wrote.length ≡ n ∷ []
  pub read : s.read_number ≡ 0
  pub restored :
      table_contents (take n s.wrote.out) [] (header_at s.found.header) s.found.bindings s.found.buffers s.found.variables s.found.types
      ≡ reflection_in (lent_by s)
  pub again : (l : WordsLent) (after : WordsLeft) → WriteCall l after → LentAgain s n l → SameBytesAgain s n after

pub data RoundTripOf (s : Side) : Type 0 where
  refused : (e : Refusal) → RefusedExport s e → RoundTripOf s
  restored : (n : ℕ) → RestoredExport s n → RoundTripOf s
