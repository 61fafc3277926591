-- `place_text` meets its contract: it lends the pool's region of the scratch; past the limit it does nothing.
use mathlib.Core.Path.{refl}
use Rattle.write_texts.proofs.PlacedInScratch.{pool_lent, text_lent}
use Rattle.write_texts.proofs.writer.Writer.place_text.Goals as goal

pub place_in_pool-requires-clause-has_room : goal.place_in_pool-requires-clause-has_room
place_in_pool-requires-clause-has_room c = pool_lent c.requires.pools_ready c.args.pool c.region.ensures.0 c.region.ensures.1 c.requires.scratch_bound

pub returns-clause-placed : goal.returns-clause-placed
returns-clause-placed c = text_lent c.requires.pools_ready c.args.pool c.region.ensures.0 c.region.ensures.1 refl c.place_in_pool.ensures.placed
