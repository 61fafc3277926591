-- `nontrefalcu_refusal_text` meets its contract: the answer is that of `refusal_text`.
use mathlib.Core.Path.{refl}
use Rattle.nontrefalcu.specs.Exports.{sentence_into}
use Rattle.nontrefalcu.proofs.WrittenText.{length_fits, handed_out}
use Rattle.nontrefalcu.proofs.refusal.nontrefalcu_refusal_text.Goals as goal

pub hand_length-requires : goal.hand_length-requires
hand_length-requires c = length_fits _ _ c.refusal_text-written.ensures.answer

pub returns : goal.returns
unfolding sentence_into
returns c =
    let wrote = c.refusal_text-written.ensures in
    let handed = c.hand_length.ensures in
    handed_out refl _ _ (wrote.answer, wrote.out) (handed.answer, handed.length)
