-- Noninterference in the two outputs (specs/Outputs.antt): by noninterference, and since bytes that were written fit, so that they stand whole at the output's
-- start.
use Rattle.reflection.specs.Outcome.{Outcome}
use Rattle.reflection.specs.declared.refusal.Refusal.TheVariants.{NoRoom, OutputTooSmall}
use Rattle.std.specs.Prelude.{Ok, Err, Some}
use mathlib.Core.Path.{◌≡◌, refl, sym, ap, ◌∙◌}
use mathlib.Core.Bool.{Bool, true, false, cond}
use Prim.Native.Nat.{ℕ, ◌+◌, ◌≤◌, min}
use native.Mathlib.Omega.{arith}
use borrow.Author.Tests.{leb-true}
use lib.Dec.{leb}
use lib.ListN.{length, take, drop, replicate}
use lib.Seq.{take-append_seam}
use Rattle.words.specs.Splice.{splice}
use Rattle.words.proofs.Splice.{splice_eq}
use Rattle.reflection.specs.Limits.{chunk_limit}
use Rattle.reflection.specs.Reflection.{ResourceDef}
use Rattle.reflection.specs.Contents.{Bytes}
use Rattle.text_output.specs.Written.{fits_in, fitting, written_of, output_of}
use Rattle.write_spec.specs.Canonical.{canonical}
use Rattle.write_spec.specs.Outcome.{scratch_size, canonical_or16, write}
use Rattle.theorem_round_trip.specs.RoundTrip.{NumbersAreWords}
use Rattle.theorem_noninterference.proofs.Noninterference.{canonical_noninterference}
use Rattle.theorem_noninterference.specs.Noninterference.{SameButDefaults, Indistinguishable, both_refused, both_written}
use Rattle.theorem_noninterference.specs.Outputs.{answer_of, output_after, OutputsAlike, both_refused as outputs-refused}
use Rattle.theorem_noninterference.specs.Outputs.{both_written as outputs-written}

-- What was written fits the output.
fits_by_test : (test : Bool) (bytes written : Bytes) → cond test (Ok bytes) (Err OutputTooSmall) ≡ Ok written → (test ≡ true) × (bytes ≡ written)
fits_by_test true bytes written e = (refl, ap (λ o. elim o [ Ok b ↦ b | Err r ↦ bytes ]) e)
fits_by_test false bytes written e = absurd (let apart : ◌≡◌ {A = ℕ} 0 1 = cc in omega arith)

fitting_fits : (room : ℕ) (o : Outcome Bytes) (written : Bytes) → fitting room o ≡ Ok written → length written ≤ room
unfolding fitting
fitting_fits room (Ok bytes) written e =
    let (test, same) = fits_by_test (fits_in room (length bytes)) bytes written e in
    omega (arith, leb-true (length bytes) (min room chunk_limit) test, ap length same)
fitting_fits room (Err r) written e = absurd (let apart : ◌≡◌ {A = ℕ} 0 1 = cc in omega arith)

write_by_test : (test : Bool) (room : ℕ) (o : Outcome Bytes) (written : Bytes) → cond test (fitting room o) (Err NoRoom) ≡ Ok written
    → length written ≤ room
write_by_test true room o written e = fitting_fits room o written e
write_by_test false room o written e = absurd (let apart : ◌≡◌ {A = ℕ} 0 1 = cc in omega arith)

write_fits : (scratch room : ℕ) (a : ResourceDef Bytes Bytes) (written : Bytes) → write scratch room (Some a) ≡ Ok written → length written ≤ room
unfolding write
write_fits scratch room a written e = write_by_test (leb scratch_size scratch) room (canonical_or16 (Some a)) written e

-- So it stands at the output's start.
at_start : (old written : Bytes) → length written ≤ length old → take (length written) (splice old 0 written) ≡ written
at_start old written fits =
    let inside : 0 + length written ≤ length old = omega (arith, fits) in
    ap (take (length written)) (splice_eq old 0 written inside) ∙ take-append_seam written (drop (0 + length written) old)

-- One reflection's answer and output, by what was written.
module _ (scratch room : ℕ) (old : Bytes) (a : ResourceDef Bytes Bytes) (is-room : length old ≡ room) where
  answer_is : {o : Outcome Bytes} → write scratch room (Some a) ≡ o → answer_of scratch old a ≡ written_of o
  unfolding answer_of
  answer_is e = ap (λ (n : ℕ). written_of (write scratch n (Some a))) is-room ∙ ap written_of e

  output_is : {o : Outcome Bytes} → write scratch room (Some a) ≡ o → output_after scratch old a ≡ output_of o old
  unfolding output_after
  output_is e = ap (λ (n : ℕ). output_of (write scratch n (Some a)) old) is-room ∙ ap (λ (o : Outcome Bytes). output_of o old) e

  written_at_start : (n : ℕ) → write scratch room (Some a) ≡ Ok (canonical a) → length (canonical a) ≡ n → take n (output_after scratch old a) ≡ canonical a
  unfolding output_of
  written_at_start n e long =
      ap (λ (k : ℕ). take k (output_after scratch old a)) (sym long) ∙ ap (take (length (canonical a))) (output_is e)
      ∙ at_start old (canonical a) (omega (arith, is-room, write_fits scratch room a (canonical a) e))

module _ (scratch : ℕ) (old-a old-b : Bytes) (a b : ResourceDef Bytes Bytes) (same_room : length old-a ≡ length old-b) where
  pub outputs_alike : Indistinguishable scratch (length old-a) a b → OutputsAlike scratch old-a old-b a b
  unfolding written_of output_of
  outputs_alike (both_refused e in-a in_b) =
      outputs-refused e (answer_is scratch (length old-a) old-a a refl in-a) (answer_is scratch (length old-a) old-b b (sym same_room) in_b)
      (output_is scratch (length old-a) old-a a refl in-a ∙ ap (λ (n : ℕ). replicate n 0) same_room
      ∙ sym (output_is scratch (length old-a) old-b b (sym same_room) in_b))
  outputs_alike (both_written in-a in_b alike) =
      outputs-written (length (canonical a)) (answer_is scratch (length old-a) old-a a refl in-a)
      (answer_is scratch (length old-a) old-b b (sym same_room) in_b ∙ ap Ok (sym alike.same_length))
      (written_at_start scratch (length old-a) old-a a refl (length (canonical a)) in-a refl)
      (written_at_start scratch (length old-a) old-b b (sym same_room) (length (canonical a)) in_b (sym alike.same_length)) alike

  pub noninterference_in_outputs : NumbersAreWords a → SameButDefaults a b → OutputsAlike scratch old-a old-b a b
  noninterference_in_outputs words same = outputs_alike (canonical_noninterference scratch (length old-a) a b words same)
