-- `put_header` meets its contract: the words that it writes of the array are the header's row, with the RD11 words or without.
use Rattle.write_tables.proofs.RowWords.{header_row_is}
use Rattle.write_tables.proofs.Writers.{appended_as}
use Rattle.write_tables.proofs.records.put_header.Goals as goal

pub returns : goal.returns
returns c = appended_as (header_row_is c.args.def c.args.buffers c.args.creator c.is_sm5.ensures c.header_size-size.ensures) c.put_word_bytes.ensures
