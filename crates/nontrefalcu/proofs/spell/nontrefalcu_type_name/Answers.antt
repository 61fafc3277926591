-- `nontrefalcu_type_name` meets its contract: the answer is that of `hlsl_type_name` for record 0.
use mathlib.Core.Path.{ap}
use lib.ListN.{length}
use Rattle.reflection.specs.declared.TypeDesc.{TypeDesc}
use Rattle.text_output.specs.Written.{fitting}
use Rattle.spelling.specs.Spelling.{type_name}
use Rattle.nontrefalcu.specs.Exports.{type_name_into}
use Rattle.nontrefalcu.proofs.WrittenText.{length_fits, handed_out}
use Rattle.nontrefalcu.proofs.spell.nontrefalcu_type_name.Goals as goal

pub hand_length-requires : goal.hand_length-requires
hand_length-requires c = length_fits _ _ c.hlsl_type_name-written.ensures.answer

pub returns : goal.returns
unfolding type_name_into
returns c =
    let a = c.args in
    let asked = ap (λ (t : TypeDesc). fitting (length a.out.now) (type_name a.chunk.now a.edits.now t)) c.type_at-t.ensures in
    let wrote = c.hlsl_type_name-written.ensures in
    let handed = c.hand_length.ensures in
    handed_out asked _ _ (wrote.answer, wrote.out) (handed.answer, handed.length)
