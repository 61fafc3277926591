-- NONINTERFERENCE OF THE EXPORTED WRITER (document 01, demand 3): of `nontrefalcu_write_canonical` and `nontrefalcu_parse_rdef`, what
-- crates/theorem_functions/specs/Noninterference.antt says of the functions that they call, with answers as numbers.
--
-- In plain words. Two sides, A and B, each call the writer and, where it answers 0, `parse_rdef` on the written bytes (`Side`, Calls.antt). Suppose that they
-- share all but the bytes of their defaults, and that scratch and output are as long in A as in B (`Shared`). Then both writers answer the same number other
-- than 0, with zeros in output, scratch and length; or both answer 0 with the same length n, both are read, and the two are alike (`SidesAlike`): the
-- defaults at the same places, every one of the first n bytes outside these places equal, each side's own bytes at its places, bytes past n as they were,
-- scratch zero.
--
-- Definitions that this rests on: those of crates/theorem_functions/specs/Noninterference.antt, and Calls.antt. proofs/Noninterference.antt proves it.
use Rattle.reflection.specs.Refusals.{refusal_number}
use Rattle.reflection.specs.declared.refusal.Refusal.{Refusal}
use Rattle.std.specs.Prelude.{◌≡◌, [], ◌∷◌, ℕ, length as size, replicate}
use Rattle.reflection.specs.declared.ResourceDef.{ResourceDef as Header}
use Rattle.nontrefalcu.specs.Exports.{header_words_in_table}
use Rattle.theorem_functions.specs.Noninterference.{RefusedSide, SidesAlike}
use Rattle.theorem_exports.specs.Calls.{Side, lent_by, left_after}

-- A side whose writer answered this refusal's number, and left zeros.
pub record RefusedExport (s : Side) (e : Refusal) : Type 0 where
  pub answer : s.wrote.number ≡ refusal_number e
  pub length_zero : s.wrote.length ≡ replicate (size s.given.length) 0
  pub zeros : RefusedSide (lent_by s) (left_after s)

-- A side whose writer answered 0 and the length n, and whose bytes were read as a reflection with this header.
pub record WrittenExport (s : Side) (n : ℕ) (found : Header) : Type 0 where
  pub answer : s.wrote.number ≡ 0
  pub length_is : s.wrote.length ≡ n ∷ []
  pub read : s.read_number ≡ 0
  pub header_is : s.found.header ≡ header_words_in_table found

pub data SameNumbers (a b : Side) : Type 0 where
  both_refused : (e : Refusal) → RefusedExport a e → RefusedExport b e → SameNumbers a b
  both_written :
      (n : ℕ) (found-a found-b : Header) → WrittenExport a n found-a → WrittenExport b n found-b
      → SidesAlike (lent_by a) (lent_by b) (left_after a) (left_after b) n found-a.variable_count found-b.variable_count → SameNumbers a b
