use Rattle.std.proofs.Common.{arith}
use Rattle.text_output.specs.Digits.{hex_digit}
use Rattle.text_output.proofs.Digits.{no_place_left, last_digit, more_digits}
use Rattle.text_output.proofs.number.fill_digits.Goals as goal

pub returns-then-left-base-clause-digits : goal.returns-then-left-base-clause-digits
returns-then-left-base-clause-digits c =
    let l = c.loop-i in
    let d = c.digit in
    last_digit hex_digit c.args.base l.digits l.i l.left d.result l.invariant (omega arith) (omega arith) d.ensures c.if-left-base.true

pub loop-i-preserved : goal.loop-i-preserved
loop-i-preserved c =
    let l = c.loop-i in
    let d = c.digit in
    more_digits hex_digit c.args.base l.digits l.i l.left d.result l.invariant (omega arith) (omega arith) d.ensures c.if-left-base.false

pub returns-clause-digits : goal.returns-clause-digits
returns-clause-digits c =
    let l = c.loop-i in no_place_left hex_digit c.args.base l.digits l.i l.left l.invariant (omega arith)
