-- `Wanted::new` meets its contract. So far `hash` is that of the words before the index.
use mathlib.Core.Path.{◌≡◌}
use Rattle.write_pool.specs.Pool.{hash_of}
use Rattle.write_pool.proofs.wanted.Wanted.new.Given as goal

abbrev pub invariant-loop-word : goal.invariant-loop-word
invariant-loop-word l = l.hash ≡ hash_of l.bytes l.word-index
