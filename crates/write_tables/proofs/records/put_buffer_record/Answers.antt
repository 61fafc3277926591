-- `put_buffer_record` meets its contract: the array that it fills is the buffer's row.
use Rattle.write_tables.proofs.RowWords.{buffer_row_is}
use Rattle.write_tables.proofs.Writers.{words_put}
use Rattle.write_tables.proofs.records.put_buffer_record.Goals as goal

pub returns : goal.returns
returns c = words_put (buffer_row_is c.args.buffers.now c.args.w.now.scratch.now c.args.buffer c.buffer_at-fields.ensures) c.put_word_bytes.ensures
