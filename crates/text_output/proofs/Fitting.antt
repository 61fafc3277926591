-- The end of writing: where the output is the lent one with some bytes put at its start, the answer and the output are those of the bytes that fit.
-- The cursor is then the number of bytes, and the output keeps its length. A refusal passes through.
use Rattle.reflection.specs.Outcome.{Outcome}
use Rattle.reflection.specs.declared.refusal.Refusal.TheVariants.{OutputTooSmall}
use Rattle.std.specs.Prelude.{Ok, Err}
use Rattle.reflection.specs.declared.refusal.Refusal.{Refusal}
use mathlib.Core.Path.{◌≡◌, refl, ap, ◌∙◌}
use mathlib.Core.Bool.{Bool, true, false, cond}
use mathlib.Core.List.{List}
use Prim.Native.Nat.{ℕ}
use native.Mathlib.Omega.{arith}
use lib.ListN.{length, replicate}
use Rattle.words.specs.Splice.{Put}
use Rattle.words.proofs.Splice.{put_length}
use Rattle.text_output.specs.Written.{fits_in, fitting, written_of, output_of, Answers, Written}
use Rattle.text_output.specs.Cursor.{finished, kept}

-- nothing to write: the refusal
module _ {outcome : Outcome (List ℕ)} {why : Refusal} (refusal : outcome ≡ Err why) (lent : List ℕ) where
  refused_fitting : Err why ≡ fitting (length lent) outcome
  unfolding fitting
  refused_fitting = rw refusal

  pub refused_answer : written_of (Err why) ≡ written_of (fitting (length lent) outcome)
  refused_answer = ap written_of refused_fitting

  pub refused_output : output_of (Err why) lent ≡ output_of (fitting (length lent) outcome) lent
  refused_output = ap (λ (o : Outcome (List ℕ)). output_of o lent) refused_fitting

-- bytes that were put
module _ {lent out bytes : List ℕ} {at : ℕ} (put : Put lent 0 bytes out at) where
  at-end : at ≡ length bytes
  at-end = omega (arith, put.next)

  output_by_test : (fits : Bool)
      → kept (cond fits (Ok at) (Err OutputTooSmall)) out ≡ output_of (cond fits (Ok bytes) (Err OutputTooSmall)) lent
  unfolding kept output_of
  output_by_test true = put.list
  output_by_test false = ap (λ (n : ℕ). replicate n 0) (put_length put)

  answer_by_test : (fits : Bool)
      → cond fits (Ok at) (Err OutputTooSmall) ≡ written_of (cond fits (Ok bytes) (Err OutputTooSmall))
  unfolding written_of
  answer_by_test true = ap Ok at-end
  answer_by_test false = refl

  same_test : fits_in (length out) at ≡ fits_in (length lent) (length bytes)
  same_test = λ i. fits_in (put_length put i) (at-end i)

  pub finished_answer : finished (length out) at ≡ written_of (fitting (length lent) (Ok bytes))
  unfolding finished fitting
  finished_answer = rw same_test (answer_by_test (fits_in (length lent) (length bytes)))

  pub finished_output : kept (finished (length out) at) out ≡ output_of (fitting (length lent) (Ok bytes)) lent
  unfolding finished fitting
  finished_output = rw same_test (output_by_test (fits_in (length lent) (length bytes)))

-- what `refuse` and `finish` ensure, for the outcome that was asked for
module _ {outcome : Outcome (List ℕ)} {lent after : List ℕ} {r : Written} where
  pub refused_answers : {why : Refusal} → outcome ≡ Err why
      → (r ≡ written_of (Err why)) × (after ≡ output_of (Err why) lent) → Answers outcome lent after r
  refused_answers refusal wrote = record { answer = wrote.0 ∙ refused_answer refusal lent; out = wrote.1 ∙ refused_output refusal lent }

  pub finished_answers : {out bytes : List ℕ} {at : ℕ} → outcome ≡ Ok bytes → Put lent 0 bytes out at
      → (r ≡ finished (length out) at) × (after ≡ kept (finished (length out) at) out) → Answers outcome lent after r
  finished_answers is put wrote = rw is (record { answer = wrote.0 ∙ finished_answer put; out = wrote.1 ∙ finished_output put })
