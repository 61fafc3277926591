-- `text::cstring_at` meets its contract. The invariant of its loop: the scan from here on decides, and while the flag stands the bytes passed are all
-- below 0x80, so that a string of such bytes needs no second pass.
use mathlib.Core.Path.{◌≡◌}
use mathlib.Core.Bool.{true}
use lib.ListN.{drop}
use Rattle.text.specs.Strings.{until_nul}
use Rattle.text.proofs.Strings.{AsciiBelow}
use Rattle.text.proofs.cstring_at.Given as goal

abbrev pub invariant-loop-length : goal.invariant-loop-length
invariant-loop-length l = record {
  scan : until_nul l.rest l.at 0 ≡ until_nul (drop l.length l.rest) l.at l.length;
  passed : l.ascii ≡ true → AsciiBelow l.rest l.length;
}
