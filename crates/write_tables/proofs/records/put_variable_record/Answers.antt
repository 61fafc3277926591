-- `put_variable_record` meets its contract: the words that it writes of the array are the variable's row.
use Rattle.write_tables.proofs.RowWords.{variable_row_is}
use Rattle.write_tables.proofs.Writers.{words_put}
use Rattle.write_tables.proofs.records.put_variable_record.Goals as goal

pub returns : goal.returns
returns c =
    words_put
    (variable_row_is c.args.variables.now c.args.w.now.scratch.now c.args.variable c.args.sm5 c.variable_at-fields.ensures c.variable_size.ensures)
    c.put_word_bytes.ensures
