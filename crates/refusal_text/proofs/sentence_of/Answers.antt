-- `map_or` answers what the refusal says, or the empty text.
use Rattle.std.proofs.Common.{refl}
use Rattle.refusal_text.proofs.Numbers.{sentence_of_number}
use Rattle.refusal_text.proofs.sentence_of.Goals as goal

pub returns : goal.returns
returns c = sentence_of_number c.args.number c.map_or.result _ c.try_from.result c.try_from.ensures refl c.map_or.ensures
