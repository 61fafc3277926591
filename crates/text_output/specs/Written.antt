-- A text written to a lent output: document 01, "Refusals" (17; zeros on a refusal; what lies past the written length keeps its old content).
use Rattle.reflection.specs.Outcome.{Outcome}
use Rattle.reflection.specs.declared.refusal.Refusal.TheVariants.{OutputTooSmall}
use Rattle.std.specs.Prelude.{Bool, cond, List, ◌≡◌, ℕ, min, leb, length, replicate, Ok, Err}
use Rattle.words.specs.Splice.{splice}
use Rattle.reflection.specs.Limits.{chunk_limit}

-- What writing to a lent output answers: how many bytes were written, or why nothing was.
abbrev pub Written : Type 0
Written = Outcome ℕ

-- Whether so many bytes fit an output with this room, and are no more than a chunk may have.
abbrev pub fits_in : ℕ → ℕ → Bool
fits_in room n = leb n (min room chunk_limit)

-- The bytes, where they fit; else 17.
unfoldable pub fitting : ℕ → Outcome (List ℕ) → Outcome (List ℕ)
fitting room (Ok bytes) = cond (fits_in room (length bytes)) (Ok bytes) (Err OutputTooSmall)
fitting room (Err e) = Err e

-- The answer's two cases: how many bytes were written, or the refusal.
unfoldable pub written_of : Outcome (List ℕ) → Written
written_of (Ok bytes) = Ok (length bytes)
written_of (Err e) = Err e

-- What the output then holds.
unfoldable pub output_of : Outcome (List ℕ) → List ℕ → List ℕ
output_of (Ok bytes) out = splice out 0 bytes
output_of (Err e) out = replicate (length out) 0

-- How a function answers that writes an outcome's bytes to a lent output: its answer, and what the output then holds, are those of the bytes that fit.
pub record Answers (outcome : Outcome (List ℕ)) (before after : List ℕ) (r : Written) : Type 0 where
  pub answer : r ≡ written_of (fitting (length before) outcome)
  pub out : after ≡ output_of (fitting (length before) outcome) before
