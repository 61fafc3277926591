use Rattle.write_tables.proofs.VariablesLoop.{variables_none, one_ready, variables_more, variables_all}
use Rattle.write_tables.proofs.Writers.{same_lent, lent_then}
use Rattle.write_tables.proofs.variables.place_variables.Goals as goal

pub loop-placed-init : goal.loop-placed-init
loop-placed-init c = (variables_none c.requires, same_lent c.args.w.now)

pub place_variable-requires : goal.place_variable-requires
place_variable-requires c = one_ready c.requires c.loop-placed.invariant.0 c.loop-placed-test.true

pub loop-placed-preserved : goal.loop-placed-preserved
loop-placed-preserved c =
    let placed = c.place_variable.ensures in
    (variables_more c.requires c.loop-placed.invariant.0 c.loop-placed-test.true placed.placed, lent_then c.loop-placed.invariant.1 placed.same)

pub returns : goal.returns
returns c = record { placed = variables_all c.loop-placed.invariant.0 c.loop-placed-test.false; same = c.loop-placed.invariant.1 }
