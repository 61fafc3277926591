-- `put_variable_records` meets its contract: the loop's invariant is that the first i rows were put.
use Rattle.write_tables.specs.Offsets.{variable_row}
use Rattle.write_tables.proofs.Rows.{RowsSoFar}
use Rattle.write_tables.proofs.records.put_variable_records.Given as goal

abbrev pub invariant-loop-i : goal.invariant-loop-i
invariant-loop-i l = RowsSoFar (variable_row l.sm5 l.variables) l.variable l.count l.initial.w l.w l.i
