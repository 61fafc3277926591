-- `write_type`, `place_members` and `place_member_type` meet their contracts. A need that is not named here is one of sums, lengths or known cases that the
-- search closes.
use mathlib.Core.Path.{refl, sym, ◌∙◌}
use native.Mathlib.Omega.{arith}
use Rattle.write_texts.specs.Scratch.{region}
use Rattle.write_types.proofs.Ready.{node_early, name_room, entry_room, down_ready}
use Rattle.write_types.proofs.Handed.{lent_then, type_ready_named, type_placed_named, members_ready_named, members_placed_named}
use Rattle.write_types.proofs.MemberType.{known_here, member_known, member_new, member_written}
use Rattle.write_types.proofs.Members.{starts, ends, turn, type_ready, goes_on}
use Rattle.write_types.proofs.Writing.{members_ready, members_done, type_written}
use Rattle.write_types.proofs.write.+place_member_type_place_members_write_type.Goals as goal

-- `place_member_type`: the type's offset is known, or it was written and then pushed.
pub place_member_type-invariant_of-x : goal.place_member_type-invariant_of-x
place_member_type-invariant_of-x t c = omega (arith, node_early c.requires)

pub place_member_type-overflow_mul-start : goal.place_member_type-overflow_mul-start
place_member_type-overflow_mul-start t c = omega (arith, entry_room c.requires)

pub place_member_type-overflow_add-start : goal.place_member_type-overflow_add-start
place_member_type-overflow_add-start t c = omega (arith, entry_room c.requires)

pub place_member_type-overflow_mul-end : goal.place_member_type-overflow_mul-end
place_member_type-overflow_mul-end t c = omega (arith, entry_room c.requires)

pub place_member_type-overflow_add-end : goal.place_member_type-overflow_add-end
place_member_type-overflow_add-end t c = omega (arith, entry_room c.requires)

pub place_member_type-offset_bounds-scratch-start : goal.place_member_type-offset_bounds-scratch-start
place_member_type-offset_bounds-scratch-start t c = omega (arith, entry_room c.requires)

pub place_member_type-slice_bounds-entries-end : goal.place_member_type-slice_bounds-entries-end
place_member_type-slice_bounds-entries-end t c = omega (arith, entry_room c.requires, c.requires.ready.long)

pub place_member_type-returns-in-Some-clause-placed : goal.place_member_type-returns-in-Some-clause-placed
place_member_type-returns-in-Some-clause-placed t c = member_known c.requires (known_here c.requires c.known_offset.ensures) c.in-Some.is c.skip_type-w.ensures

pub place_member_type-write_type-offset-requires : goal.place_member_type-write_type-offset-requires
place_member_type-write_type-offset-requires t c = (omega (arith, c.decreases), down_ready c.requires)

pub place_member_type-returns-clause-placed : goal.place_member_type-returns-clause-placed
place_member_type-returns-clause-placed t c =
    member_written c.requires _ refl (member_new c.requires (known_here c.requires c.known_offset.ensures) c.in_default.is) c.write_type-offset.ensures.placed
    c.overwrite.ensures

-- `place_members`: each turn of the loop places a member and pushes its record.
pub place_members-loop-level-init : goal.place_members-loop-level-init
place_members-loop-level-init t c = (starts c.requires, record { scratch = refl; out = refl; bytes = refl })

pub place_members-place_inner_name-name-requires-clause-scratch_bound : goal.place_members-place_inner_name-name-requires-clause-scratch_bound
place_members-place_inner_name-name-requires-clause-scratch_bound t c =
    (turn c.requires c.loop-level.invariant.0 (sym c.has_member.ensures ∙ c.loop-level-test.true)).names

pub place_members-place_inner_name-name-requires-clause-at_le_farthest_offset :
    goal.place_members-place_inner_name-name-requires-clause-at_le_farthest_offset
place_members-place_inner_name-name-requires-clause-at_le_farthest_offset t c =
    (turn c.requires c.loop-level.invariant.0 (sym c.has_member.ensures ∙ c.loop-level-test.true)).near

pub place_members-overflow_sub-member : goal.place_members-overflow_sub-member
place_members-overflow_sub-member t c = (turn c.requires c.loop-level.invariant.0 (sym c.has_member.ensures ∙ c.loop-level-test.true)).level

pub place_members-place_member_type-offset-requires : goal.place_members-place_member_type-offset-requires
place_members-place_member_type-offset-requires t c =
    let here = sym c.has_member.ensures ∙ c.loop-level-test.true in (
      omega (arith, c.decreases, (turn c.requires c.loop-level.invariant.0 here).level),
      type_ready_named c.place_inner_name-name.ensures.same
          (type_ready c.requires c.loop-level.invariant.0 here c.type_at-desc.ensures c.place_inner_name-name.ensures.placed),
    )

pub place_members-overflow_add-top : goal.place_members-overflow_add-top
place_members-overflow_add-top t c =
    omega (arith, (turn c.requires c.loop-level.invariant.0 (sym c.has_member.ensures ∙ c.loop-level-test.true)).record_room)

pub place_members-overflow_sub-left : goal.place_members-overflow_sub-left
place_members-overflow_sub-left t c = (turn c.requires c.loop-level.invariant.0 (sym c.has_member.ensures ∙ c.loop-level-test.true)).some_left

pub place_members-loop-level-smaller : goal.place_members-loop-level-smaller
place_members-loop-level-smaller t c =
    omega (arith, (turn c.requires c.loop-level.invariant.0 (sym c.has_member.ensures ∙ c.loop-level-test.true)).some_left)

pub place_members-loop-level-preserved : goal.place_members-loop-level-preserved
place_members-loop-level-preserved t c = (
  goes_on c.requires c.loop-level.invariant.0 (sym c.has_member.ensures ∙ c.loop-level-test.true) c.type_at-desc.ensures
      c.place_inner_name-name.ensures.placed (type_placed_named c.place_inner_name-name.ensures.same c.place_member_type-offset.ensures.placed)
      c.overwrite.ensures,
  lent_then c.loop-level.invariant.1 (lent_then c.place_inner_name-name.ensures.same.lent (lent_then c.place_member_type-offset.ensures.same
      (record { scratch = refl; out = refl; bytes = refl }))),
)

pub place_members-returns-clause-placed : goal.place_members-returns-clause-placed
place_members-returns-clause-placed t c = ends c.requires c.loop-level.invariant.0 (sym c.has_member.ensures ∙ c.loop-level-test.false)

-- `write_type`: its name, its members and what closes it, one after the other.
pub write_type-place_type_name-name-requires-clause-scratch_bound : goal.write_type-place_type_name-name-requires-clause-scratch_bound
write_type-place_type_name-name-requires-clause-scratch_bound t c = (name_room c.requires).0

pub write_type-place_type_name-name-requires-clause-at_le_farthest_offset : goal.write_type-place_type_name-name-requires-clause-at_le_farthest_offset
write_type-place_type_name-name-requires-clause-at_le_farthest_offset t c = (name_room c.requires).1

pub write_type-overflow_add-w : goal.write_type-overflow_add-w
write_type-overflow_add-w t c = omega (arith, node_early c.requires, c.place_type_name-name.ensures.same.node)

pub write_type-place_members-top-requires : goal.write_type-place_members-top-requires
write_type-place_members-top-requires t c = (
  omega (arith, c.decreases),
  members_ready_named c.place_type_name-name.ensures.same
      (members_ready c.requires c.type_at-desc.ensures c.count_within-count.ensures c.place_type_name-name.ensures.placed),
)

pub write_type-offset_bounds-scratch-level : goal.write_type-offset_bounds-scratch-level
write_type-offset_bounds-scratch-level t c =
    let done = members_done c.requires c.type_at-desc.ensures c.count_within-count.ensures c.place_type_name-name.ensures.placed
    (members_placed_named c.place_type_name-name.ensures.same c.place_members-top.ensures.placed) in
    omega (arith, done.order, done.end)

pub write_type-slice_bounds-records-end : goal.write_type-slice_bounds-records-end
write_type-slice_bounds-records-end t c =
    let done = members_done c.requires c.type_at-desc.ensures c.count_within-count.ensures c.place_type_name-name.ensures.placed
    (members_placed_named c.place_type_name-name.ensures.same c.place_members-top.ensures.placed) in
    omega (arith, done.order, done.inside)

pub write_type-put_type-requires : goal.write_type-put_type-requires
unfolding region
write_type-put_type-requires t c =
    let done = members_done c.requires c.type_at-desc.ensures c.count_within-count.ensures c.place_type_name-name.ensures.placed
    (members_placed_named c.place_type_name-name.ensures.same c.place_members-top.ensures.placed) in
    (done.near, done.few)

pub write_type-returns-clause-placed : goal.write_type-returns-clause-placed
unfolding region
write_type-returns-clause-placed t c =
    type_written c.requires c.type_at-desc.ensures c.count_within-count.ensures c.place_type_name-name.ensures.placed
    (members_placed_named c.place_type_name-name.ensures.same c.place_members-top.ensures.placed) c.put_type.ensures.put
