-- `put_binding_record` meets its contract: the words that it writes of the array are the binding's row.
use Rattle.write_tables.proofs.RowWords.{binding_row_is}
use Rattle.write_tables.proofs.Writers.{words_put}
use Rattle.write_tables.proofs.records.put_binding_record.Goals as goal

pub returns : goal.returns
returns c =
    words_put
    (binding_row_is c.args.bindings.now c.args.w.now.scratch.now c.args.binding c.args.wide c.binding_at-fields.ensures c.binding_size.ensures)
    c.put_word_bytes.ensures
