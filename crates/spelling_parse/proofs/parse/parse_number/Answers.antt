-- `parse_number` meets its contract: digit after digit, until the value is too large.
use native.Mathlib.Omega.{arith}
use mathlib.Core.Path.{sym, ◌∙◌}
use Rattle.spelling_parse.proofs.ParseNumbers.{number_nothing, number_start, number_from_end, number_from_other, number_from_digit, number_from_too_large}
use Rattle.spelling_parse.proofs.parse.parse_number.Goals as goal

pub returns-then-is_empty : goal.returns-then-is_empty
returns-then-is_empty c =
    sym (number_nothing c.args.text.now c.without_plus-digits.ensures (sym c.is_empty.ensures ∙ c.if-is_empty.true))

pub loop-b-init : goal.loop-b-init
loop-b-init c = record {
  below = omega arith;
  decided = number_start c.args.text.now c.without_plus-digits.ensures (sym c.is_empty.ensures ∙ c.if-is_empty.false);
}

pub returns-then-not-is_ascii_digit : goal.returns-then-not-is_ascii_digit
returns-then-not-is_ascii_digit c =
    let turn = c.loop-b in
    let digits = c.without_plus-digits.result.now in
    let other = sym c.is_ascii_digit.ensures.value ∙ c.if-not-is_ascii_digit.true in
    sym (turn.invariant.decided ∙ number_from_other digits turn.b-index turn.value c.loop-b-test.true other)

pub returns-then-value-ge-U16_LIMIT : goal.returns-then-value-ge-U16_LIMIT
returns-then-value-ge-U16_LIMIT c =
    let turn = c.loop-b in
    let digits = c.without_plus-digits.result.now in
    let digit = sym c.is_ascii_digit.ensures.value ∙ c.if-not-is_ascii_digit.false in
    let large = rw c.from.ensures at c.if-value-ge-U16_LIMIT.true in
    sym (turn.invariant.decided ∙ number_from_too_large digits turn.b-index turn.value c.loop-b-test.true digit large)

pub loop-b-preserved : goal.loop-b-preserved
loop-b-preserved c =
    let turn = c.loop-b in
    let digits = c.without_plus-digits.result.now in
    let digit = sym c.is_ascii_digit.ensures.value ∙ c.if-not-is_ascii_digit.false in
    record {
      below = omega arith;
      decided = turn.invariant.decided ∙ number_from_digit digits turn.b-index turn.value c.loop-b-test.true digit ∙ rw c.from.ensures;
    }

pub returns : goal.returns
returns c =
    let turn = c.loop-b in
    let digits = c.without_plus-digits.result.now in
    sym (turn.invariant.decided ∙ number_from_end digits turn.b-index turn.value c.loop-b-test.false turn.invariant.below)
