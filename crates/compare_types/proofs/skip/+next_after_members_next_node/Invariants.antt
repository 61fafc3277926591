-- `next_after_members` and `next_node` meet their contracts. The levels fall from a type to its members, and the invariant of the loop over members is that
-- what is left decides the next node.
use Rattle.std.proofs.Common.{◌≡◌, ◌+◌}
use Rattle.tables.specs.Trees.{tree_at, members_at}
use Rattle.compare_types.proofs.skip.+next_after_members_next_node.Given as goal

abbrev pub decreases-next_after_members : goal.decreases-next_after_members
decreases-next_after_members l = l.levels + l.levels + 1

abbrev pub decreases-next_node : goal.decreases-next_node
decreases-next_node l = l.levels + l.levels

abbrev pub invariant-next_after_members-loop-next : goal.invariant-next_after_members-loop-next
invariant-next_after_members-loop-next l =
    (members_at (tree_at l.types l.levels) l.types l.count l.k).next
    ≡ (members_at (tree_at l.types l.levels) l.types l.left l.next).next

abbrev pub decreases-next_after_members-loop-next : goal.decreases-next_after_members-loop-next
decreases-next_after_members-loop-next l = l.left
