-- A written text's answer gives the number and the length of its outcome; the length is at most 65,536, since `fitting` lets no longer text pass.
use Rattle.reflection.specs.Outcome.{Outcome}
use Rattle.reflection.specs.declared.refusal.Refusal.TheVariants.{NoRoom, OutputTooSmall}
use Rattle.std.specs.Prelude.{Ok, Err, Option}
use mathlib.Core.Path.{◌≡◌, refl, ap, ◌∙◌}
use mathlib.Core.Bool.{Bool, true, false, cond}
use mathlib.Core.List.{List}
use Prim.Native.Nat.{ℕ, min}
use native.Mathlib.Omega.{arith}
use borrow.Author.Tests.{leb-true}
use lib.Dec.{leb}
use lib.ListN.{length}
use Rattle.reflection.specs.Limits.{chunk_limit}
use Rattle.reflection.specs.Reflection.{ResourceDef}
use Rattle.reflection.specs.Contents.{Bytes}
use Rattle.text_output.specs.Written.{fits_in, fitting, written_of, output_of, Written}
use Rattle.write_spec.specs.Outcome.{scratch_size, canonical_or16, write}
use Rattle.nontrefalcu.specs.Exports.{number_of, result_table, one_word, length_table, LengthFits}
use Rattle.nontrefalcu.specs.Left.{TextLeft}

written_number : (out : Outcome (List ℕ)) → number_of (written_of out) ≡ number_of out
unfolding written_of number_of
written_number (Ok bytes) = refl
written_number (Err e) = refl

written_table : (out : Outcome (List ℕ)) (n : ℕ) → result_table one_word (written_of out) n ≡ length_table out n
unfolding written_of result_table
written_table (Ok bytes) n = refl
written_table (Err e) n = refl

fits_by_test : (room : ℕ) (bytes : List ℕ) (fits : Bool) → fits_in room (length bytes) ≡ fits
    → LengthFits (written_of (cond fits (Ok bytes) (Err OutputTooSmall)))
unfolding written_of
fits_by_test room bytes true h = omega (arith, leb-true (length bytes) (min room chunk_limit) h)
fits_by_test room bytes false h = tt

fitting_fits : (room : ℕ) (out : Outcome (List ℕ)) → LengthFits (written_of (fitting room out))
unfolding fitting written_of
fitting_fits room (Ok bytes) = fits_by_test room bytes (fits_in room (length bytes)) refl
fitting_fits room (Err e) = tt

fits_by_scratch : (enough : Bool) (room : ℕ) (out : Outcome (List ℕ)) → LengthFits (written_of (cond enough (fitting room out) (Err NoRoom)))
unfolding written_of
fits_by_scratch true room out = fitting_fits room out
fits_by_scratch false room out = tt

module _ {written : Written} where
  pub length_fits : (room : ℕ) (out : Outcome (List ℕ)) → written ≡ written_of (fitting room out) → LengthFits written
  length_fits room out answer = rw answer (fitting_fits room out)

  pub canonical_fits : (scratch room : ℕ) (r : Option (ResourceDef Bytes Bytes)) → written ≡ written_of (write scratch room r) → LengthFits written
  unfolding write
  canonical_fits scratch room r answer = rw answer (fits_by_scratch (leb scratch_size scratch) room (canonical_or16 r))

  -- what the writing function and `hand_length` ensure, for the outcome that was asked for
  module _ {out asked : Outcome (List ℕ)} (same : out ≡ asked) (lent old : List ℕ) {r : ℕ} {bytes words : List ℕ} where
    pub handed_out : (written ≡ written_of out) × (bytes ≡ output_of out lent)
        → (r ≡ number_of written) × (words ≡ result_table one_word written (length old))
        → TextLeft asked lent bytes old words r
    handed_out wrote handed =
        let number = ap (λ (w : Written). number_of w) wrote.0 ∙ written_number out in
        let table = ap (λ (w : Written). result_table one_word w (length old)) wrote.0 ∙ written_table out (length old) in
        let left : TextLeft out lent bytes old words r = record { answer = handed.0 ∙ number; out = wrote.1; length = handed.1 ∙ table } in
        rw (← same) left
