-- `text::long_utf8_ok` meets its contract. The invariant of its loop: the bytes below i and those from i on decide together.
use mathlib.Core.Path.{◌≡◌}
use mathlib.Core.Bool.{◌&&◌}
use Prim.Native.Nat.{◌-◌}
use lib.ListN.{get_or, drop}
use Rattle.text.specs.Utf8.{well_formed}
use Rattle.text.specs.Neighbours.{fits_from}
use Rattle.text.proofs.long_utf8_ok.Given as goal

abbrev pub invariant-loop-i : goal.invariant-loop-i
invariant-loop-i l = well_formed l.s ≡ (l.ok && fits_from (get_or l.s (l.i - 3) 0) (get_or l.s (l.i - 2) 0) (get_or l.s (l.i - 1) 0) (drop l.i l.s))
