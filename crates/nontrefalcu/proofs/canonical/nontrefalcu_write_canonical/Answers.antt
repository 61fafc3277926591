-- `nontrefalcu_write_canonical` meets its contract: the answer is that of `write_rdef_canonical` for the header that the words are.
use mathlib.Core.Path.{ap}
use lib.ListN.{length}
use Rattle.reflection.specs.declared.ResourceDef.{ResourceDef as Header}
use Rattle.readable.specs.Readable.{table_contents}
use Rattle.write_spec.specs.Outcome.{write}
use Rattle.nontrefalcu.specs.Writing.{canonical_into}
use Rattle.nontrefalcu.proofs.WrittenText.{handed_out, canonical_fits}
use Rattle.nontrefalcu.proofs.canonical.nontrefalcu_write_canonical.Goals as goal

pub hand_length-requires : goal.hand_length-requires
hand_length-requires c = canonical_fits _ _ _ c.write_rdef_canonical-written.ensures.written.answer

pub returns : goal.returns
unfolding canonical_into
returns c =
    let a = c.args in
    let asked = ap (λ (h : Header). write (length a.scratch.now) (length a.out.now)
    (table_contents a.chunk.now a.edits.now h a.bindings.now a.buffers.now a.variables.now a.types.now))
    c.header_at.ensures in
    let wrote = c.write_rdef_canonical-written.ensures in
    let handed = c.hand_length.ensures in
    record { text = handed_out asked _ _ (wrote.written.answer, wrote.written.out) (handed.answer, handed.length); scratch = wrote.scratch }
