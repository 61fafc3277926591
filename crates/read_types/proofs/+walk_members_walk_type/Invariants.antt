-- `walk_members` and `walk_type` meet their contracts: each way out is one case of the walk. They end: the members of a type are walked with one level less,
-- and their types with as many levels as the members. So `levels + levels` falls from a type to the types of its members, with the members' walk one above.
use mathlib.Core.Path.{◌≡◌}
use Rattle.std.proofs.Common.{◌+◌, ◌-◌}
use Rattle.read_types.specs.Filling.{OnlyTypes}
use Rattle.read_types.proofs.MembersWalk.{Going}
use Rattle.read_types.proofs.+walk_members_walk_type.Given as goal

abbrev pub decreases-walk_members : goal.decreases-walk_members
decreases-walk_members l = l.levels + l.levels + 1

abbrev pub decreases-walk_type : goal.decreases-walk_type
decreases-walk_type l = l.levels + l.levels

-- The loop over the members.
abbrev pub invariant-walk_members-loop : goal.invariant-walk_members-loop
invariant-walk_members-loop l = record {
  going : Going l.initial.members.chunk.bytes.now l.initial.members.chunk.sm5 l.initial.members.at l.initial.members.count l.levels
      l.initial.filling.capacity l.initial.filling.counts l.initial.filling.types.now l.initial.filling.path
      l.filling.types.now l.filling.path l.filling.counts l.members.at (l.initial.members.count - l.counter);
  chunk : l.members.chunk ≡ l.initial.members.chunk;
  kept : OnlyTypes l.initial.filling l.filling;
}
