-- What the writer wrote is the canonical form of what the tables hold, which is readable, and it fits; so it stands whole at the output's start, and what lies
-- past it is as it was.
use Rattle.reflection.specs.declared.refusal.Refusal.TheVariants.{OutputTooSmall, NotReadable, NoRoom}
use Rattle.std.specs.Prelude.{Ok, Err, Option, None, Some}
use mathlib.Core.Path.{◌≡◌, refl, ap, ◌∙◌}
use mathlib.Core.Bool.{Bool, true, false, cond}
use mathlib.Core.List.{◌++◌}
use Prim.Native.Nat.{ℕ, ◌+◌, ◌≤◌, min}
use native.Mathlib.Omega.{arith}
use borrow.Author.Tests.{leb-true, le-leb}
use lib.Dec.{leb}
use lib.ListN.{length, take, drop}
use lib.Seq.{take-append_seam, drop-append_seam}
use Rattle.reflection.specs.Limits.{chunk_limit}
use Rattle.words.specs.Parts.{inside, part}
use Rattle.words.specs.Splice.{splice}
use Rattle.words.proofs.Splice.{length_splice, splice_eq}
use Rattle.reflection.specs.Reflection.{ResourceDef}
use Rattle.reflection.specs.Contents.{Bytes}
use Rattle.readable.specs.Readable.{readable_contents}
use Rattle.text_output.specs.Written.{fitting}
use Rattle.write_spec.specs.Canonical.{canonical}
use Rattle.write_spec.specs.Outcome.{scratch_size, canonical_or16, write}

pub record WrittenForm (scratch room : ℕ) (o : Option (ResourceDef Bytes Bytes)) (bytes : Bytes) : Type 0 where
  pub reflection : ResourceDef Bytes Bytes
  pub is_held : o ≡ Some reflection
  pub is_readable : readable_contents reflection ≡ true
  pub is_form : canonical reflection ≡ bytes
  pub fits : length bytes ≤ min room chunk_limit
  pub enough : scratch_size ≤ scratch

pub written_form : (scratch room : ℕ) (o : Option (ResourceDef Bytes Bytes)) (bytes : Bytes) → write scratch room o ≡ Ok bytes
    → WrittenForm scratch room o bytes
unfolding write canonical_or16 fitting
written_form scratch room o bytes e = by_scratch (leb scratch_size scratch) refl o refl e
  where
    by_fit : (r : ResourceDef Bytes Bytes) (fits : Bool) → leb (length (canonical r)) (min room chunk_limit) ≡ fits → scratch_size ≤ scratch
        → o ≡ Some r → readable_contents r ≡ true
        → cond fits (Ok (canonical r)) (Err OutputTooSmall) ≡ Ok bytes → WrittenForm scratch room o bytes
    by_fit r true is enough held passes q =
        let same : canonical r ≡ bytes = cc in
        record {
          reflection = r;
          is_held = held;
          is_readable = passes;
          is_form = same;
          fits = omega (arith, leb-true (length (canonical r)) (min room chunk_limit) is, ap length same);
          enough = enough;
        }
    by_fit r false is enough held passes q = absurd (let apart : ◌≡◌ {A = ℕ} 0 1 = cc in omega arith)

    by_readable : (r : ResourceDef Bytes Bytes) (passes : Bool) → readable_contents r ≡ passes → scratch_size ≤ scratch → o ≡ Some r
        → fitting room (cond passes (Ok (canonical r)) (Err NotReadable)) ≡ Ok bytes → WrittenForm scratch room o bytes
    by_readable r true is enough held q = by_fit r (leb (length (canonical r)) (min room chunk_limit)) refl enough held is q
    by_readable r false is enough held q = absurd (let apart : ◌≡◌ {A = ℕ} 0 1 = cc in omega arith)

    by_held : (h : Option (ResourceDef Bytes Bytes)) → o ≡ h → scratch_size ≤ scratch → fitting room (canonical_or16 h) ≡ Ok bytes
        → WrittenForm scratch room o bytes
    by_held None held enough q = absurd (let apart : ◌≡◌ {A = ℕ} 0 1 = cc in omega arith)
    by_held (Some r) held enough q = by_readable r (readable_contents r) refl enough held q

    by_scratch : (test : Bool) → leb scratch_size scratch ≡ test → (h : Option (ResourceDef Bytes Bytes)) → o ≡ h
        → cond test (fitting room (canonical_or16 h)) (Err NoRoom) ≡ Ok bytes → WrittenForm scratch room o bytes
    by_scratch true is h held q = by_held h held (leb-true scratch_size scratch is) q
    by_scratch false is h held q = absurd (let apart : ◌≡◌ {A = ℕ} 0 1 = cc in omega arith)

-- Bytes written over an output's start.
module _ (bytes out : Bytes) (fits : length bytes ≤ length out) where
  start_and_rest : splice out 0 bytes ≡ bytes ++ drop (0 + length bytes) out
  start_and_rest = splice_eq out 0 bytes (omega arith)

  pub written_start : take (length bytes) (splice out 0 bytes) ≡ bytes
  written_start = ap (take (length bytes)) start_and_rest ∙ take-append_seam bytes (drop (0 + length bytes) out)

  pub written_rest : drop (length bytes) (splice out 0 bytes) ≡ drop (length bytes) out
  written_rest =
      let same : 0 + length bytes ≡ length bytes = omega arith in
      ap (drop (length bytes)) start_and_rest ∙ drop-append_seam bytes (drop (0 + length bytes) out) ∙ ap (λ (n : ℕ). drop n out) same

  pub written_part : part (splice out 0 bytes) 0 (length bytes) ≡ bytes
  unfolding part inside
  written_part =
      let holds : leb (0 + length bytes) (length (splice out 0 bytes)) ≡ true = le-leb (0 + length bytes) (length (splice out 0 bytes))
      (omega (arith, fits, length_splice out 0 bytes)) in
      rw (holds, part) written_start
