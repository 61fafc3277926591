-- `buffers_readable` meets its contract. The invariant of its loop: the buffers take all variables where those from i on take the rest. Assumes nothing.
use Rattle.std.proofs.Common.{◌≡◌, ◌-◌}
use Rattle.readable.specs.Checks.{buffers_checked}
use Rattle.readable.proofs.subject.Subject.buffers_readable.Given as goal

abbrev pub invariant-loop-i : goal.invariant-loop-i
invariant-loop-i l =
    let checked = buffers_checked l.self.texts.chunk.now l.self.texts.edits.now l.self.r.buffers.now in
    checked 0 l.self.r.def.buffer_count l.self.r.def.variable_count ≡ checked l.i (l.self.r.def.buffer_count - l.i) l.rest
