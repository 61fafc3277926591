-- `put_line` meets its contract: the name, then the columns after it.
use Rattle.text_output.proofs.Appended.{appended_then}
use Rattle.listing.proofs.put_line.Goals as goal

pub returns : goal.returns
returns c = appended_then c.put_padded.ensures.text c.put_columns.ensures
