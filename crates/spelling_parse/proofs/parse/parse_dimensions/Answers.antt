-- `parse_dimensions` meets its contract: one law for each way out.
use mathlib.Core.Path.{sym, ◌∙◌}
use Rattle.spelling_parse.proofs.ParseTypes.{no_rows, no_columns, matrix_shape, no_number, vector_shape}
use Rattle.spelling_parse.proofs.parse.parse_dimensions.Goals as goal

pub returns-in_err-parse_number-in-Some : goal.returns-in_err-parse_number-in-Some
returns-in_err-parse_number-in-Some c =
    let some = sym c.is_empty.ensures ∙ c.if-is_empty.false in
    rw c.from_residual.ensures (no_rows c.args.text.now some c.in-Some.ensures c.in_err-parse_number-in-Some.ensures)

pub returns-in_err-parse_number-in-Some-2 : goal.returns-in_err-parse_number-in-Some-2
returns-in_err-parse_number-in-Some-2 c =
    let some = sym c.is_empty.ensures ∙ c.if-is_empty.false in
    rw c.from_residual-in_err-parse_number-in-Some-2.ensures
    (no_columns c.args.text.now some c.in-Some.ensures c.in_ok-parse_number-in-Some.ensures c.in_err-parse_number-in-Some-2.ensures)

pub returns-in_ok-parse_number-in-Some-2 : goal.returns-in_ok-parse_number-in-Some-2
returns-in_ok-parse_number-in-Some-2 c =
    let some = sym c.is_empty.ensures ∙ c.if-is_empty.false in
    matrix_shape c.args.text.now some c.in-Some.ensures c.in_ok-parse_number-in-Some.ensures c.in_ok-parse_number-in-Some-2.ensures

pub returns-in_err-parse_number-in-None : goal.returns-in_err-parse_number-in-None
returns-in_err-parse_number-in-None c =
    let some = sym c.is_empty.ensures ∙ c.if-is_empty.false in
    rw c.from_residual-in_err-parse_number-in-None.ensures (no_number c.args.text.now some c.in-None.ensures c.in_err-parse_number-in-None.ensures)

pub returns-in_ok-parse_number-in-None : goal.returns-in_ok-parse_number-in-None
returns-in_ok-parse_number-in-None c =
    let some = sym c.is_empty.ensures ∙ c.if-is_empty.false in
    vector_shape c.args.text.now some c.in-None.ensures c.in_ok-parse_number-in-None.ensures
