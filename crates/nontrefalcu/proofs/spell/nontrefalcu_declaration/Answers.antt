-- `nontrefalcu_declaration` meets its contract: the answer is that of `declaration` for record 0 of both tables.
use mathlib.Core.Path.{ap₂}
use lib.ListN.{length}
use Rattle.reflection.specs.declared.TypeDesc.{TypeDesc}
use Rattle.reflection.specs.declared.CBufferVariable.{CBufferVariable}
use Rattle.text_output.specs.Written.{fitting}
use Rattle.spelling.specs.Spelling.{declaration}
use Rattle.nontrefalcu.specs.Exports.{declaration_into}
use Rattle.nontrefalcu.proofs.WrittenText.{length_fits, handed_out}
use Rattle.nontrefalcu.proofs.spell.nontrefalcu_declaration.Goals as goal

pub hand_length-requires : goal.hand_length-requires
hand_length-requires c = length_fits _ _ c.declaration-written.ensures.answer

pub returns : goal.returns
unfolding declaration_into
returns c =
    let a = c.args in
    let asked =
    ap₂ (λ (t : TypeDesc). λ (v : CBufferVariable). fitting (length a.out.now) (declaration a.chunk.now a.edits.now t v.name))
    c.type_at-t.ensures
    c.variable_at.ensures in
    let wrote = c.declaration-written.ensures in
    let handed = c.hand_length.ensures in
    handed_out asked _ _ (wrote.answer, wrote.out) (handed.answer, handed.length)
