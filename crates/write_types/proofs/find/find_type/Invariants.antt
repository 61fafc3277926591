-- `find_type` meets its contract. The invariant of its loop: what is looked up among all entries is what is looked up among those that are left.
use Rattle.std.proofs.Common.{◌≡◌, ◌/◌, length}
use Rattle.write_texts.specs.Scratch.{shared_width}
use Rattle.write_types.specs.TypePlaced.{type_offset}
use Rattle.write_types.proofs.find.find_type.Given as goal

abbrev pub invariant-loop-i : goal.invariant-loop-i
invariant-loop-i l =
    type_offset l.texts.chunk.now l.texts.edits.now l.x.types.now l.levels l.x.node l.entries 0 0 (length l.entries / shared_width)
    ≡ type_offset l.texts.chunk.now l.texts.edits.now l.x.types.now l.levels l.x.node l.entries 0 0 l.i
