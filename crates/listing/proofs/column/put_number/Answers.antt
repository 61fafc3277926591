-- `put_number` meets its contract: a digit is one scalar value, so the digits written are those that the spaces are counted after.
use mathlib.Core.Path.{◌≡◌}
use Prim.Native.Nat.{◌-◌}
use native.Mathlib.Omega.{arith}
use Rattle.text_output.specs.Digits.{decimal}
use Rattle.text_output.proofs.Appended.{appended_then}
use Rattle.listing.specs.Listing.{scalars, pad_to}
use Rattle.listing.proofs.Padding.{decimal_scalars}
use Rattle.listing.proofs.column.put_number.Goals as goal

pub returns-clause-text : goal.returns-clause-text
unfolding pad_to
returns-clause-text c =
    let n = c.args.n in
    let digits = c.put_decimal.ensures.text in
    let used : c.put_decimal.new.self.at - c.put_byte.new.self.at ≡ scalars (decimal n) = omega (arith, digits.text.next, decimal_scalars n) in
    appended_then c.put_byte.ensures (appended_then digits (rw used at c.pad.ensures))
