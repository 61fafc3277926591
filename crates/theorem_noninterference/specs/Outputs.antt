-- Vocabulary of proofs: of the functions themselves this is said in crates/theorem_functions/specs/Noninterference.antt.
-- Noninterference in the two outputs: what `write_rdef_canonical` answers and leaves (`written_of` and `output_of` of `write`, by its contract), whatever lay
-- in the lent outputs before. After a refusal both answers and both outputs are the same. Else both answers are the same length, and each output begins with
-- its reflection's canonical form; these are alike (`Alike`).
use Rattle.reflection.specs.declared.refusal.Refusal.{Refusal}
use Rattle.std.specs.Prelude.{◌≡◌, ℕ, length, take, Some, Ok, Err}
use Rattle.reflection.specs.Reflection.{ResourceDef}
use Rattle.reflection.specs.Contents.{Bytes}
use Rattle.text_output.specs.Written.{written_of, output_of, Written}
use Rattle.write_spec.specs.Canonical.{canonical}
use Rattle.write_spec.specs.Outcome.{write}
use Rattle.theorem_noninterference.specs.Noninterference.{Alike}

-- The answer, and the output after it, of a reflection written with so much scratch into an output that held `old`.
unfoldable pub answer_of : ℕ → Bytes → ResourceDef Bytes Bytes → Written
answer_of scratch old a = written_of (write scratch (length old) (Some a))

unfoldable pub output_after : ℕ → Bytes → ResourceDef Bytes Bytes → Bytes
output_after scratch old a = output_of (write scratch (length old) (Some a)) old

pub data OutputsAlike (scratch : ℕ) (old-a old-b : Bytes) (a b : ResourceDef Bytes Bytes) : Type 0 where
  both_refused :
      (e : Refusal) → answer_of scratch old-a a ≡ Err e → answer_of scratch old-b b ≡ Err e → output_after scratch old-a a ≡ output_after scratch old-b b
      → OutputsAlike scratch old-a old-b a b
  both_written :
      (n : ℕ) → answer_of scratch old-a a ≡ Ok n → answer_of scratch old-b b ≡ Ok n → take n (output_after scratch old-a a) ≡ canonical a
      → take n (output_after scratch old-b b) ≡ canonical b → Alike a b → OutputsAlike scratch old-a old-b a b
