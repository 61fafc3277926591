-- `begin_pools` meets its contract: each pool is made empty in its own region.
use Rattle.write_texts.specs.declared.text_pool.TextPool.TheVariants.{OuterNames, InnerNames, Defaults}
use Rattle.write_texts.specs.Scratch.{region, outer_pool, inner_pool, default_pool}
use Rattle.write_tables.proofs.Beginning.{pool_lent, pools_begun}
use Rattle.write_tables.proofs.chunk.begin_pools.Goals as goal

pub returns : goal.returns
unfolding outer_pool inner_pool default_pool region
returns c =
    let outer = pool_lent OuterNames _ _ c.region.ensures c.begin.ensures in
    let inner = pool_lent InnerNames _ _ c.region-2.ensures c.begin-2.ensures in
    let defaults = pool_lent Defaults _ _ c.region-3.ensures c.begin-3.ensures in
    pools_begun c.args.scratch.now _ _ _ c.begin.new.pool c.begin-2.new.pool c.begin-3.new.pool c.requires outer.0 outer.1 inner.0 inner.1
    defaults.0 defaults.1
