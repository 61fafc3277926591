-- `check_type` and `check_members` meet their contracts: each way out is one case of the walk. They end, since `levels + levels` falls from a type to the
-- types of its members, with the members one above. The invariant of the loop over the members: all are readable where those left are. Assumes nothing.
use Rattle.std.proofs.Common.{◌≡◌, true, ◌+◌, ◌-◌, ◌≤◌}
use Rattle.reflection.specs.Rd11.{rd11_from_header}
use Rattle.reflection.specs.Reflection.{is_sm5}
use Rattle.readable.specs.Checks.{node_checked, members_left, type_left, nodes_from}
use Rattle.readable.proofs.subject.Subject.+check_members_check_type.Given as goal

abbrev pub decreases-check_members : goal.decreases-check_members
decreases-check_members l = l.levels + l.levels + 1

abbrev pub decreases-check_type : goal.decreases-check_type
decreases-check_type l = l.levels + l.levels

abbrev pub invariant-check_members-loop : goal.invariant-check_members-loop
invariant-check_members-loop l =
    let def = l.self.r.def in
    let walk = type_left (node_checked l.self.texts.chunk.now l.self.texts.edits.now (is_sm5 (rd11_from_header def))) true l.levels in
    let types = l.self.r.types.now in
    record {
      left : members_left walk l.n (nodes_from types l.k (def.type_count - l.k))
          ≡ members_left walk (l.n - l.counter) (nodes_from types l.next (def.type_count - l.next));
      within : l.next ≤ def.type_count;
    }
