-- `begin` meets its contract: the words that it clears are the first 1,025, or all where there are fewer.
use Rattle.write_pool.proofs.Emptied.{emptied_part_begun}
use Rattle.write_pool.proofs.begin.Goals as goal

pub returns : goal.returns
returns c =
    emptied_part_begun c.args.pool.now c.min-n.result c.min-n.ensures c.fill.new.self (c.fill.ensures.after (λ y e. e))
