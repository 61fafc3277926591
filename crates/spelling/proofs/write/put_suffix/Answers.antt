-- `put_suffix` meets its contract: nothing, or three puts in a row.
use borrow.Author.Tests.{eq-eqb, ne_eqb}
use Rattle.text_output.proofs.Appended.{appended_none, appended_then}
use Rattle.spelling.specs.Spelling.{array_suffix}
use Rattle.spelling.proofs.write.put_suffix.Goals as goal

pub returns-else-elements-ne0-clause-text : goal.returns-else-elements-ne0-clause-text
unfolding array_suffix
returns-else-elements-ne0-clause-text c = rw (eq-eqb c.args.elements 0 c.if-elements-ne0.false) (appended_none c.args.out.now)

pub returns-then-elements-ne0-clause-text : goal.returns-then-elements-ne0-clause-text
unfolding array_suffix
returns-then-elements-ne0-clause-text c =
    let closed = appended_then c.put_decimal.ensures.text c.put_byte-then-elements-ne0.ensures in
    rw (ne_eqb c.args.elements 0 c.if-elements-ne0.true) (appended_then c.put_byte.ensures closed)
