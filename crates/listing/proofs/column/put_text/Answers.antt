-- `put_text` meets its contract: a space, then the text, filled up.
use Rattle.text_output.proofs.Appended.{appended_then}
use Rattle.listing.proofs.column.put_text.Goals as goal

pub returns-clause-text : goal.returns-clause-text
returns-clause-text c = appended_then c.put_byte.ensures c.put_padded.ensures.text
