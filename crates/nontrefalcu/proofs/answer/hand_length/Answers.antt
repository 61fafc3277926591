-- `hand_length` meets its contract: a written length is a word.
use mathlib.Core.Path.{◌∙◌}
use lib.ListN.{length}
use Rattle.nontrefalcu.specs.Exports.{one_word}
use Rattle.nontrefalcu.proofs.HandedOut.{mapped_number, mapped_table}
use Rattle.nontrefalcu.proofs.answer.hand_length.Goals as goal

pub returns : goal.returns
returns c =
    let handed = c.hand.ensures in
    let cases = c.map.ensures.cases in
    record {
      answer = handed.number ∙ mapped_number one_word _ _ cases;
      length = handed.words ∙ mapped_table one_word _ _ (length c.args.length.now) cases;
    }
