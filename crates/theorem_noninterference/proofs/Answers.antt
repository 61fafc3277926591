-- Two reflections get the same refusal or are both written: refusals hang on the scratch (15), on whether the reflection is readable (16) and on the length
-- (17), and the two agree in these.
use Rattle.reflection.specs.Outcome.{Outcome}
use Rattle.reflection.specs.declared.refusal.Refusal.TheVariants.{NoRoom, NotReadable, OutputTooSmall}
use Rattle.std.specs.Prelude.{Ok, Err, Some}
use mathlib.Core.Path.{◌≡◌, refl, ap, sym, ◌∙◌, subst}
use mathlib.Core.Bool.{Bool, true, false, cond}
use Prim.Native.Nat.{ℕ, min, ◌≤◌}
use native.Mathlib.Omega.{arith}
use lib.Dec.{T, leb, leb→le}
use lib.ListN.{length}
use Rattle.reflection.specs.Limits.{chunk_limit}
use Rattle.reflection.specs.Reflection.{ResourceDef}
use Rattle.reflection.specs.Contents.{Bytes}
use Rattle.readable.specs.Readable.{readable_contents}
use Rattle.text_output.specs.Written.{fits_in, fitting}
use Rattle.write_spec.specs.Canonical.{canonical}
use Rattle.write_spec.specs.Outcome.{scratch_size, canonical_or16, write}
use Rattle.theorem_noninterference.specs.Noninterference.{Alike, Indistinguishable, both_refused, both_written}
use Rattle.theorem_noninterference.proofs.SameButDefaults.{Common}

-- What is written, by the three tests: enough scratch, readable, room in the output.
abbrev answer : Bool → Bool → Bool → Bytes → Outcome Bytes
answer false readable fits bytes = Err NoRoom
answer true false fits bytes = Err NotReadable
answer true true false bytes = Err OutputTooSmall
answer true true true bytes = Ok bytes

write_by_tests : (scratch room : ℕ) (a : ResourceDef Bytes Bytes) → write scratch room (Some a)
    ≡ answer (leb scratch_size scratch) (readable_contents a) (fits_in room (length (canonical a))) (canonical a)
unfolding write canonical_or16 fitting
write_by_tests scratch room a = go (leb scratch_size scratch) (readable_contents a)
  where
    fit : (fits : Bool) → cond fits (Ok (canonical a)) (Err OutputTooSmall) ≡ answer true true fits (canonical a)
    fit true = refl
    fit false = refl

    go : (enough readable : Bool)
        → cond enough (fitting room (cond readable (Ok (canonical a)) (Err NotReadable))) (Err NoRoom)
        ≡ answer enough readable (fits_in room (length (canonical a))) (canonical a)
    go false readable = refl
    go true false = refl
    go true true = fit (fits_in room (length (canonical a)))

-- Both answers, by the tests of the first reflection.
module _ (scratch room : ℕ) (a b : ResourceDef Bytes Bytes) (common : Common a b) where
  abbrev fits : ResourceDef Bytes Bytes → Bool
  fits r = fits_in room (length (canonical r))

  record Tests (enough readable fit : Bool) : Type 0 where
    scratch_is : leb scratch_size scratch ≡ enough
    readable_is : readable_contents a ≡ readable
    fits_is : fits a ≡ fit

  first_answer : {enough readable fit : Bool} → Tests enough readable fit → write scratch room (Some a) ≡ answer enough readable fit (canonical a)
  first_answer t = write_by_tests scratch room a ∙ (λ i. answer (t.scratch_is i) (t.readable_is i) (t.fits_is i) (canonical a))

  second_answer : {enough readable fit : Bool} → Tests enough readable fit → write scratch room (Some b) ≡ answer enough readable fit (canonical b)
  second_answer t =
      let readable = sym common.same_readable ∙ t.readable_is in
      let fit = ap (fits_in room) (sym common.same_length) ∙ t.fits_is in
      write_by_tests scratch room b ∙ (λ i. answer (t.scratch_is i) (readable i) (fit i) (canonical b))

  both_answers : (enough readable fit : Bool) → Tests enough readable fit
      → (readable_contents a ≡ true → length (canonical a) ≤ chunk_limit → Alike a b) → Indistinguishable scratch room a b
  both_answers false readable fit t same = both_refused NoRoom (first_answer t) (second_answer t)
  both_answers true false fit t same = both_refused NotReadable (first_answer t) (second_answer t)
  both_answers true true false t same = both_refused OutputTooSmall (first_answer t) (second_answer t)
  both_answers true true true t same =
      let short : length (canonical a) ≤ min room chunk_limit = leb→le _ _ (subst T (sym t.fits_is) tt) in
      both_written (first_answer t) (second_answer t) (same t.readable_is (omega arith))

  pub same_answers : (readable_contents a ≡ true → length (canonical a) ≤ chunk_limit → Alike a b) → Indistinguishable scratch room a b
  same_answers same = both_answers (leb scratch_size scratch) (readable_contents a) (fits a)
      (record { scratch_is = refl; readable_is = refl; fits_is = refl }) same
