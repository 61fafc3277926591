-- `variables_readable` meets its contract. The invariant of its loop: all variables use all nodes where those from i on use the nodes from k on. Assumes
-- nothing.
use Rattle.std.proofs.Common.{◌≡◌, ◌-◌, ◌≤◌}
use Rattle.reflection.specs.Rd11.{rd11_from_header}
use Rattle.reflection.specs.Reflection.{is_sm5}
use Rattle.readable.specs.Checks.{variables_checked}
use Rattle.readable.proofs.subject.Subject.variables_readable.Given as goal

abbrev pub invariant-loop-i : goal.invariant-loop-i
invariant-loop-i l =
    let def = l.self.r.def in
    let checked = variables_checked l.self.texts.chunk.now l.self.texts.edits.now (is_sm5 (rd11_from_header def))
    l.self.r.variables.now l.self.r.types.now in
    record {
      left : checked 0 def.variable_count 0 def.type_count ≡ checked l.i (def.variable_count - l.i) l.k (def.type_count - l.k);
      within : l.k ≤ def.type_count;
    }
