-- The bounds that the code asks for; the check finds the rest.
use mathlib.Core.Path.{refl}
use Rattle.compare.proofs.Buffers.{first_within, nodes_within}
use Rattle.compare.proofs.reflections.same_buffers.Goals as goal

pub same_variables-requires-clause-count_bound : goal.same_variables-requires-clause-count_bound
same_variables-requires-clause-count_bound c =
    let x = c.args.x in
    let y = c.args.y in
    let at = c.loop-i in
    let n = c.buffer_at-buffer.result.variable_count in (
      first_within x.buffers.now c.args.count at.i at.next.variable n c.buffer_at-buffer.ensures at.invariant.0 refl c.loop-i-test.true
          c.requires.count_bound.0,
      (
        nodes_within x.buffers.now c.args.count at.i at.next.variable n c.buffer_at-buffer.ensures at.invariant.0 refl c.loop-i-test.true
            x.types.now c.requires.count_bound_2.0,
        nodes_within y.buffers.now c.args.count at.i at.next.variable n c.buffer_at-other.ensures at.invariant.1.0 c.if-buffer-other.false
            c.loop-i-test.true y.types.now c.requires.count_bound_2.1,
      ),
    )
