-- `walk_variables` meets its contract. The loop's law is Going; each way out, and each turn, is what reading one variable appends.
use mathlib.Core.Path.{◌≡◌}
use Prim.Native.Nat.{◌-◌}
use Rattle.read_spec.specs.Read.{read_variable, variable_stride}
use Rattle.read_tables.specs.Variables.{append_variable, variables_in, up_to_variables, OnlyVariables}
use Rattle.read_tables.proofs.Loop.{Going}
use Rattle.read_tables.proofs.variables.walk_variables.Given as goal

abbrev pub invariant-loop : goal.invariant-loop
invariant-loop l = record {
  going : Going append_variable (read_variable l.initial.variables.chunk.bytes.now l.initial.variables.chunk.sm5)
      (variable_stride l.initial.variables.chunk.sm5) l.initial.variables.at l.initial.variables.count
      l.initial.filling.capacity (up_to_variables l.initial.filling.capacity l.initial.filling.counts) l.initial.filling.counts
      (variables_in l.initial.table l.initial.filling.types.now) (variables_in l.table l.filling.types.now)
      l.filling.counts l.variables.at (l.initial.variables.count - l.counter);
  chunk : l.variables.chunk ≡ l.initial.variables.chunk;
  kept : OnlyVariables l.initial.filling l.filling l.table;
}
