-- `same_members` and `same_type` meet their contracts. The levels fall from a type to its members. The invariant of the loop over members is that what is
-- left decides, and that the nodes after what is left are those after all.
use Rattle.std.proofs.Common.{◌≡◌, ◌+◌}
use Rattle.write_spec.specs.Same.{same_members}
use Rattle.tables.specs.Trees.{tree_at, members_at}
use Rattle.compare_types.specs.Same.{same_in}
use Rattle.compare_types.proofs.pair.Pair.+same_members_same_type.Given as goal

abbrev pub decreases-same_members : goal.decreases-same_members
decreases-same_members l = l.levels + l.levels + 1

abbrev pub decreases-same_type : goal.decreases-same_type
decreases-same_type l = l.levels + l.levels

abbrev pub invariant-same_members-loop-m : goal.invariant-same_members-loop-m
invariant-same_members-loop-m l =
    (same_members (same_in l.self.texts)
    (members_at (tree_at l.self.types.now l.levels) l.self.types.now l.m l.a).it
    (members_at (tree_at l.self.others.now l.levels) l.self.others.now l.n l.b).it
    ≡ same_members (same_in l.self.texts) (members_at (tree_at l.self.types.now l.levels) l.self.types.now l.left l.i).it
    (members_at (tree_at l.self.others.now l.levels) l.self.others.now l.other_left l.j).it)
    × (((members_at (tree_at l.self.types.now l.levels) l.self.types.now l.m l.a).next
    ≡ (members_at (tree_at l.self.types.now l.levels) l.self.types.now l.left l.i).next)
    × ((members_at (tree_at l.self.others.now l.levels) l.self.others.now l.n l.b).next
    ≡ (members_at (tree_at l.self.others.now l.levels) l.self.others.now l.other_left l.j).next))

abbrev pub decreases-same_members-loop-m : goal.decreases-same_members-loop-m
decreases-same_members-loop-m l = l.left
