use native.Mathlib.Omega.{arith}
use Rattle.write_tables.proofs.NamesLoop.{names_none, names_more, names_all}
use Rattle.write_tables.proofs.Writers.{same_types, types_then}
use Rattle.write_tables.proofs.names.NamedTable.place.Goals as goal

pub loop-i-init : goal.loop-i-init
loop-i-init c = (names_none c.requires, same_types c.args.w.now)

pub place_outer_name-offset-requires-clause-pools_ready : goal.place_outer_name-offset-requires-clause-pools_ready
place_outer_name-offset-requires-clause-pools_ready c = c.loop-i.invariant.0.ready

pub place_outer_name-offset-requires-clause-scratch_bound : goal.place_outer_name-offset-requires-clause-scratch_bound
place_outer_name-offset-requires-clause-scratch_bound c = omega (arith, c.loop-i.invariant.0.entries, c.requires.entries, c.loop-i-test.true)

pub place_outer_name-offset-requires-clause-at_le_farthest_offset : goal.place_outer_name-offset-requires-clause-at_le_farthest_offset
place_outer_name-offset-requires-clause-at_le_farthest_offset c = omega (arith, c.loop-i.invariant.0.near, c.requires.output, c.loop-i-test.true)

pub loop-i-preserved : goal.loop-i-preserved
loop-i-preserved c =
    let placed = c.place_outer_name-offset.ensures in
    let same = types_then c.loop-i.invariant.1 placed.same in (
      names_more c.requires c.loop-i.invariant.0 c.loop-i-test.true c.name.ensures placed.placed,
      record {
        lent = record { scratch = same.lent.scratch; out = same.lent.out; bytes = same.lent.bytes };
        node = same.node;
        member_types = same.member_types;
        root_types = same.root_types;
      },
    )

pub returns : goal.returns
returns c = record { placed = names_all c.loop-i.invariant.0 c.loop-i-test.false; same = c.loop-i.invariant.1 }
