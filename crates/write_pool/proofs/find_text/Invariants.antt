-- `find_text` meets its contract. The loop's invariant: `link` leads to an entry of the bucket or to none, and the entries up to it answer like all. A link
-- falls.
use Rattle.write_pool.proofs.Links.{Searching}
use Rattle.write_pool.proofs.find_text.Given as goal

abbrev pub invariant-loop-link : goal.invariant-loop-link
invariant-loop-link l = Searching l.texts.chunk.now l.texts.edits.now l.pool l.wanted.bytes.now l.link

abbrev pub decreases-loop-link : goal.decreases-loop-link
decreases-loop-link l = l.link
