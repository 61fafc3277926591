-- `nontrefalcu_parse_type` meets its contract: the number of what the text spells, and its five numbers.
use mathlib.Core.Path.{ap, ◌∙◌}
use lib.ListN.{length}
use Rattle.reflection.specs.Outcome.{Outcome}
use Rattle.spelling_parse.specs.declared.TypeSpelling.{TypeSpelling}
use Rattle.nontrefalcu.specs.Exports.{number_of, spelling_table, spelling_words, type_read}
use Rattle.nontrefalcu.proofs.HandedOut.{mapped_number, mapped_table}
use Rattle.nontrefalcu.proofs.spell.nontrefalcu_parse_type.Goals as goal

pub returns : goal.returns
unfolding type_read
returns c =
    let handed = c.hand.ensures in
    let spelled = c.parse_hlsl_type-spelled.ensures in
    let cases = c.map.ensures.cases in
    let n = length c.args.numbers.now in
    record {
      answer = handed.number ∙ mapped_number spelling_words _ _ cases ∙ ap (λ (o : Outcome TypeSpelling). number_of o) spelled;
      numbers = handed.words ∙ mapped_table spelling_words _ _ n cases ∙ ap (λ (o : Outcome TypeSpelling). spelling_table o n) spelled;
    }
