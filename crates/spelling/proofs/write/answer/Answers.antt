-- `answer` meets its contract: the bytes that fit, or the refusal.
use mathlib.Core.Path.{ap, ◌∙◌}
use Prim.Native.Nat.{ℕ}
use lib.ListN.{replicate}
use Rattle.words.proofs.Splice.{put_length}
use Rattle.text_output.specs.Written.{output_of}
use Rattle.text_output.proofs.Fitting.{refused_answers, finished_answers}
use Rattle.spelling.proofs.write.answer.Goals as goal

pub returns-in-Ok-clause-answer : goal.returns-in-Ok-clause-answer
returns-in-Ok-clause-answer c outcome lent start written =
    let p = rw c.in-Ok.is at written in
    finished_answers p.is (rw start at p.put.text) (c.finish.ensures.answer, c.finish.ensures.out)

pub returns-in-Err-clause-answer : goal.returns-in-Err-clause-answer
unfolding output_of
returns-in-Err-clause-answer c outcome lent start written =
    let p = rw c.in-Err.is at written in
    refused_answers p.is (c.refuse.ensures.answer, c.refuse.ensures.out ∙ ap (λ (n : ℕ). replicate n 0) (put_length p.put.text))
