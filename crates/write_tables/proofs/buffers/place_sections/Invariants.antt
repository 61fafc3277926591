-- `place_sections` meets its contract: the loop's invariant is that the sections of the first `buffer` buffers are placed.
use Rattle.write_texts.specs.Writer.{cursor_of, SameLent}
use Rattle.write_tables.proofs.SectionsLoop.{SectionsSoFar}
use Rattle.write_tables.proofs.buffers.place_sections.Given as goal

abbrev pub invariant-loop-buffer : goal.invariant-loop-buffer
invariant-loop-buffer l =
    SectionsSoFar l.source.texts.chunk.now l.source.texts.edits.now l.r.buffers.now l.r.variables.now l.source.types.now l.source.sm5 l.count
    l.initial.w.out.now.at l.initial.w.scratch.now l.initial.w.out.now.bytes.now l.w.scratch.now l.w.out.now.bytes.now (cursor_of l.w) l.variable l.buffer
    × SameLent l.initial.w l.w
