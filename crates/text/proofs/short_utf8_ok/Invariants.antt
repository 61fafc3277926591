-- `text::short_utf8_ok` meets its contract. The invariant of its loops: what the bytes that are left do to what is awaited is what all do to nothing.
use mathlib.Core.Path.{◌≡◌}
use mathlib.Core.List.{[]}
use Prim.Native.Nat.{◌-◌, ◌≤◌}
use lib.ListN.{length}
use Rattle.text.specs.Utf8.{Left, run}
use Rattle.text.proofs.Sequences.{awaits}
use Rattle.text.proofs.short_utf8_ok.Given as goal

abbrev pub invariant-loop-first : goal.invariant-loop-first
invariant-loop-first l = record {
  can : (goal.iterator-loop-first).can_next l.bytes;
  finite : (goal.iterator-loop-first).is_finite l.bytes;
  decides : run (Left.columns []) l.bytes.rest.now ≡ run (Left.columns []) l.s;
}

abbrev pub invariant-loop : goal.invariant-loop
invariant-loop l = record {
  can : (goal.iterator-loop).can_next l.bytes;
  finite : (goal.iterator-loop).is_finite l.bytes;
  fewer : length l.bytes.rest.now ≤ length l.initial.bytes.rest.now;
  decides : run (awaits (l.tails - l.counter) l.low l.high) l.bytes.rest.now ≡ run (Left.columns []) l.s;
}
