-- The invariant of the loop of `same_variables`: the variables that are left decide, and each cursor is at the node where the next type begins.
use mathlib.Core.Path.{◌≡◌}
use Prim.Native.Nat.{◌+◌}
use Rattle.tables.specs.Decode.{records_from}
use Rattle.write_spec.specs.Same.{same_list, same_variable}
use Rattle.compare_types.specs.Same.{same_in}
use Rattle.tables.specs.TableReflection.{root_at, variable_in_table}
use Rattle.compare.proofs.Walks.{rest_equal}
use Rattle.compare.proofs.reflections.same_variables.Given as goal

abbrev pub invariant-loop-i : goal.invariant-loop-i
invariant-loop-i l =
    let x = l.fn.x in
    let y = l.fn.y in
    let same = same_in l.fn.texts in
    (l.k ≡ root_at x.types.now l.i)
    × ((l.l ≡ root_at y.types.now l.i)
    × (same_list (same_variable same same) (records_from (variable_in_table x.variables.now x.types.now) l.fn.from.variable l.count)
    (records_from (variable_in_table y.variables.now y.types.now) l.fn.from.variable l.count)
    ≡ rest_equal (same_variable same same) (variable_in_table x.variables.now x.types.now)
    (variable_in_table y.variables.now y.types.now) (l.fn.from.variable + l.count) l.i))
