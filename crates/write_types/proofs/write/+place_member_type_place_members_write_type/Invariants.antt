-- The three functions call each other, and end: the levels left fall from a type to the types of its members; on one level a member's type comes before what
-- writes it, and that before its members. The invariant of the loop over the members: whatever places those that are left has placed all (`Going`).
use Rattle.std.proofs.Common.{◌+◌, ◌*◌}
use Rattle.write_texts.specs.Writer.{cursor_of, SameLent}
use Rattle.write_types.proofs.Members.{Going}
use Rattle.write_types.proofs.write.+place_member_type_place_members_write_type.Given as goal

abbrev pub decreases-place_member_type : goal.decreases-place_member_type
decreases-place_member_type l = l.level.levels * 3 + 2

abbrev pub decreases-place_members : goal.decreases-place_members
decreases-place_members l = l.level.levels * 3

abbrev pub decreases-write_type : goal.decreases-write_type
decreases-write_type l = l.level.levels * 3 + 1

abbrev pub invariant-place_members-loop-level : goal.invariant-place_members-loop-level
invariant-place_members-loop-level l =
    Going l.source.texts.chunk.now l.source.texts.edits.now l.source.types.now l.source.sm5 l.level.levels l.count l.level.base l.level.records_top
    (cursor_of l.fn.w) l.fn.w.scratch.now l.fn.w.out.now.bytes.now l.w.scratch.now l.w.out.now.bytes.now (cursor_of l.w) l.top l.left
    × SameLent l.fn.w l.w

abbrev pub decreases-place_members-loop-level : goal.decreases-place_members-loop-level
decreases-place_members-loop-level l = l.left
