-- `refuse` meets its contract: the output is what `text_output::refuse` leaves.
use mathlib.Core.Path.{ap, ◌∙◌}
use Rattle.text_output.specs.Written.{written_of, output_of}
use Rattle.payload.specs.Answer.{payload_answer, payload_output, written_answer}
use Rattle.payload.proofs.refuse.Goals as goal

pub returns : goal.returns
unfolding payload_answer payload_output written_answer written_of output_of
returns c =
    record { answer = c.written_payload.ensures ∙ ap written_answer c.refuse.ensures.answer; out = c.refuse.ensures.out }
