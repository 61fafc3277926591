-- `parse_core` meets its contract: the base stands before the first digit, the dimensions from it on.
use Rattle.spelling_parse.proofs.ParseTypes.{no_base, no_shape, base_and_shape}
use Rattle.spelling_parse.proofs.parse.parse_core.Goals as goal

pub returns-in_err-base : goal.returns-in_err-base
returns-in_err-base c =
    let a = c.args in
    let unknown = rw c.split_at_digit.ensures.before at c.in_err-base.ensures in
    rw c.from_residual.ensures (no_base a.text.now a.elements unknown)

pub returns-in_err-class : goal.returns-in_err-class
returns-in_err-class c =
    let a = c.args in
    let known = rw c.split_at_digit.ensures.before at c.in_ok-base.ensures in
    let none = rw c.split_at_digit.ensures.from at c.in_err-class.ensures in
    rw c.from_residual-in_err-class.ensures (no_shape a.text.now a.elements known none)

pub returns : goal.returns
returns c =
    let a = c.args in
    let known = rw c.split_at_digit.ensures.before at c.in_ok-base.ensures in
    let shaped = rw c.split_at_digit.ensures.from at c.in_ok-class.ensures in
    rw (c.from.ensures, c.from-2.ensures) (base_and_shape a.text.now a.elements known shaped)
