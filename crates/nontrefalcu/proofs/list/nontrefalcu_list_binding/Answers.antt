-- `nontrefalcu_list_binding` meets its contract: the answer is that of `list_binding` for record 0.
use mathlib.Core.Path.{ap}
use lib.ListN.{length}
use Rattle.reflection.specs.declared.ResourceBinding.{ResourceBinding}
use Rattle.text_output.specs.Written.{fitting}
use Rattle.listing.specs.Listing.{listed}
use Rattle.nontrefalcu.specs.Exports.{listed_into}
use Rattle.nontrefalcu.proofs.WrittenText.{length_fits, handed_out}
use Rattle.nontrefalcu.proofs.list.nontrefalcu_list_binding.Goals as goal

pub hand_length-requires : goal.hand_length-requires
hand_length-requires c = length_fits _ _ c.list_binding-written.ensures.answer

pub returns : goal.returns
unfolding listed_into
returns c =
    let a = c.args in
    let asked = ap (λ (b : ResourceBinding). fitting (length a.out.now) (listed a.chunk.now a.edits.now b)) c.binding_at-b.ensures in
    let wrote = c.list_binding-written.ensures in
    let handed = c.hand_length.ensures in
    handed_out asked _ _ (wrote.answer, wrote.out) (handed.answer, handed.length)
