-- `place` meets its contract: the loop's invariant is that the first i names are placed and their offsets stored.
use Rattle.write_texts.specs.Writer.{SameTypes}
use Rattle.write_tables.specs.Placed.{name_at}
use Rattle.write_tables.proofs.NamesLoop.{NamesSoFar}
use Rattle.write_tables.proofs.names.NamedTable.place.Given as goal

abbrev pub invariant-loop-i : goal.invariant-loop-i
invariant-loop-i l =
    NamesSoFar l.source.texts.chunk.now l.source.texts.edits.now (name_at l.self.width l.self.table.now) l.count l.self.start l.self.step
    l.initial.w.out.now.at l.initial.w.scratch.now l.initial.w.out.now.bytes.now l.w.scratch.now l.w.out.now.bytes.now l.w.out.now.at l.i
    × SameTypes l.initial.w l.w
