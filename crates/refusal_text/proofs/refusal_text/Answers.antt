-- `refusal_text` meets its contract: the sentence was put from the output's start on, and `finish` tells whether it fitted.
use Rattle.std.proofs.Common.{rules, refl, ◌∙◌}
use Rattle.text_output.proofs.Fitting.{finished_answers}
use Rattle.refusal_text.proofs.refusal_text.Goals as goal

pub returns : goal.returns
returns c =
    let bytes = c.as_bytes.ensures.value ∙ c.sentence_of-text.ensures in
    finished_answers refl (rw bytes at c.put_bytes.ensures.text) (c.finish.ensures.answer, search rules)
