-- `put_padded` meets its contract: the text, then the spaces.
use Rattle.text_output.proofs.Appended.{appended_then}
use Rattle.listing.specs.Listing.{pad_to}
use Rattle.listing.proofs.column.put_padded.Goals as goal

pub returns-clause-text : goal.returns-clause-text
unfolding pad_to
returns-clause-text c = rw c.scalar_count.ensures at (appended_then c.put_bytes.ensures c.pad.ensures)
