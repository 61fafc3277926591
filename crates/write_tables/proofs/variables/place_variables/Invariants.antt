-- `place_variables` meets its contract: the loop's invariant is that the first `placed` variables are placed.
use Rattle.write_texts.specs.Writer.{cursor_of, SameLent}
use Rattle.write_tables.proofs.VariablesLoop.{VariablesSoFar}
use Rattle.write_tables.proofs.variables.place_variables.Given as goal

abbrev pub invariant-loop-placed : goal.invariant-loop-placed
invariant-loop-placed l =
    VariablesSoFar l.source.texts.chunk.now l.source.texts.edits.now l.variables l.source.types.now l.source.sm5 l.share l.variable l.count
    (cursor_of l.initial.w) l.initial.w.scratch.now l.initial.w.out.now.bytes.now l.w.scratch.now l.w.out.now.bytes.now (cursor_of l.w) l.placed
    × SameLent l.initial.w l.w
