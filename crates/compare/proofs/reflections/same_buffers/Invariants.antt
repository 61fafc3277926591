-- The invariant of the loop of `same_buffers`: the buffers that are left decide, and the place is at their first variable and at the nodes where its type
-- begins.
use mathlib.Core.Path.{◌≡◌}
use Rattle.tables.specs.Decode.{records_from}
use Rattle.write_spec.specs.Same.{same_list, same_buffer}
use Rattle.compare_types.specs.Same.{same_in}
use Rattle.tables.specs.TableReflection.{root_at, first_variable, buffer_in_table}
use Rattle.compare.proofs.Walks.{rest_equal}
use Rattle.compare.proofs.reflections.same_buffers.Given as goal

abbrev pub invariant-loop-i : goal.invariant-loop-i
invariant-loop-i l =
    let x = l.fn.x in
    let y = l.fn.y in
    let same = same_in l.fn.texts in
    let in_x = buffer_in_table x.buffers.now x.variables.now x.types.now in
    let in_y = buffer_in_table y.buffers.now y.variables.now y.types.now in
    (l.next.variable ≡ first_variable x.buffers.now l.i)
    × ((l.next.variable ≡ first_variable y.buffers.now l.i)
    × ((l.next.root ≡ root_at x.types.now l.next.variable)
    × ((l.next.other_root ≡ root_at y.types.now l.next.variable)
    × (same_list (same_buffer same same) (records_from in_x 0 l.count) (records_from in_y 0 l.count)
    ≡ rest_equal (same_buffer same same) in_x in_y l.count l.i))))
