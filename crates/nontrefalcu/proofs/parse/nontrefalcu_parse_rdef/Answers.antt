-- `nontrefalcu_parse_rdef` meets its contract: the tables are as the reader left them, and its answer gives the number and the header's words.
use mathlib.Core.Path.{ap, ◌∙◌}
use lib.ListN.{length}
use Rattle.read.specs.Answer.{Parsed}
use Rattle.nontrefalcu.specs.Exports.{number_of, result_table, header_words_in_table}
use Rattle.nontrefalcu.proofs.HandedOut.{mapped_number, mapped_table, parsed_number, parsed_table}
use borrow.Author.Rules.{rules}
use Rattle.nontrefalcu.proofs.parse.nontrefalcu_parse_rdef.Goals as goal

pub returns : goal.returns
returns c =
    let handed = c.hand.ensures in
    let cases = c.map.ensures.cases in
    let read = c.parse_rdef-parsed.ensures.parsed in
    let n = length c.args.header.now in
    record {
      answer = handed.number ∙ mapped_number header_words_in_table _ _ cases ∙ ap (λ (p : Parsed). number_of p) read.answer ∙ parsed_number _;
      header = handed.words
          ∙ mapped_table header_words_in_table _ _ n cases
          ∙ ap (λ (p : Parsed). result_table header_words_in_table p n) read.answer
          ∙ parsed_table _ n;
      bindings = search (rules, read.bindings);
      buffers = search (rules, read.buffers);
      variables = search (rules, read.variables);
      types = search (rules, read.types);
    }
