-- `put_records` meets its contract: nothing where there are no members, else padding and the words.
use mathlib.Core.Path.{sym, ◌∙◌}
use native.Mathlib.Omega.{arith}
use borrow.Author.Tests.{eqb-true, eqb-false}
use lib.ListN.{length}
use Rattle.write_types.proofs.Putting.{padding_near, records_none, records_some}
use Rattle.write_types.proofs.put.put_records.Goals as goal

pub returns-then-is_empty-clause-put : goal.returns-then-is_empty-clause-put
returns-then-is_empty-clause-put c = let args = c.args in
    records_none args.records.now args.out.now.bytes.now args.out.now.at
    (eqb-true (length args.records.now) 0 (sym c.is_empty.ensures ∙ c.if-is_empty.true))

pub put_word_bytes-requires : goal.put_word_bytes-requires
put_word_bytes-requires c =
    omega (arith, padding_near c.put_padding.ensures.text, c.requires)

pub overflow_cast-result : goal.overflow_cast-result
overflow_cast-result c =
    omega (arith, padding_near c.put_padding.ensures.text, c.requires)

pub returns-clause-put : goal.returns-clause-put
returns-clause-put c =
    records_some c.args.records.now (eqb-false (length c.args.records.now) 0 (sym c.is_empty.ensures ∙ c.if-is_empty.false))
    c.put_padding.ensures.text c.put_word_bytes.ensures.text
