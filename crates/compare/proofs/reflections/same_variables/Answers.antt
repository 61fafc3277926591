-- The nodes are no farther than the last type; the check finds the rest.
use Prim.Native.Nat.{◌+◌}
use Rattle.compare.proofs.Buffers.{root_within}
use Rattle.compare.proofs.reflections.same_variables.Goals as goal

pub invariant_of-x_type : goal.invariant_of-x_type
invariant_of-x_type c =
    record {
      near = root_within c.args.x.types.now c.loop-i.i c.loop-i.k c.loop-i.invariant.0 (c.args.from.variable + c.args.count)
          c.requires.count_bound.1.0 c.loop-i-test.true;
    }

pub invariant_of-y_type : goal.invariant_of-y_type
invariant_of-y_type c =
    record {
      near = root_within c.args.y.types.now c.loop-i.i c.loop-i.l c.loop-i.invariant.1.0 (c.args.from.variable + c.args.count)
          c.requires.count_bound.1.1 c.loop-i-test.true;
    }
