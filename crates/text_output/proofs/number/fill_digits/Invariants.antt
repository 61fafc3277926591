-- `fill_digits`: what is filled in, after the digits of what is left, is the digits of n; each turn moves one digit over.
use Rattle.std.proofs.Common.{◌≡◌, [], length, drop}
use Rattle.text_output.specs.Digits.{digits_before, hex_digit}
use Rattle.text_output.proofs.number.fill_digits.Given as goal

abbrev pub invariant-loop-i : goal.invariant-loop-i
invariant-loop-i l = digits_before hex_digit l.base l.i l.left (drop l.i l.digits) ≡ digits_before hex_digit l.base (length l.initial.digits) l.n []
