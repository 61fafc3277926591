-- `remember` meets its contract: its three writes are those of an added entry.
use mathlib.Core.Path.{sym}
use Prim.Native.Nat.{◌+◌, ◌<◌}
use native.Mathlib.Omega.{arith}
use lib.ListN.{get_or, length-set}
use Rattle.write_pool.specs.Pool.{bucket_count, entry_count}
use Rattle.write_pool.proofs.Hashes.{bucket_is_below_count}
use Rattle.write_pool.proofs.Added.{writes_remember}
use Rattle.write_pool.proofs.remember.Goals as goal

pub bounds-pool-head-2 : goal.bounds-pool-head-2
bounds-pool-head-2 c =
    let a = c.args in
    omega (
      arith,
      a.wanted.in_bucket,
      bucket_is_below_count a.wanted.bytes.now,
      length-set c.overwrite.new.table 0 (get_or a.pool.now 0 0 + 1),
      c.overwrite.auto.table,
      c.requires.entry_width_in_bounds,
    )

pub returns : goal.returns
unfolding entry_count
returns c =
    let a = c.args in
    let small : a.wanted.bucket < bucket_count = omega (arith, a.wanted.in_bucket, bucket_is_below_count a.wanted.bytes.now) in
    rw (sym a.wanted.in_bucket) (writes_remember a.pool.now a.text a.wanted.bucket a.offset small c.requires.entry_width_in_bounds c.overwrite.ensures)
