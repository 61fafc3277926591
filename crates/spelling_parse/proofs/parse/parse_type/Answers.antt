-- `parse_type` meets its contract: the first '[' parts the type from the number of its elements.
use mathlib.Core.Path.{◌∙◌}
use Rattle.spelling_parse.proofs.ParseTypes.{plain_type, no_elements, array_type}
use Rattle.spelling_parse.proofs.parse.parse_type.Goals as goal

pub returns-in_err-parse_elements-in-Some : goal.returns-in_err-parse_elements-in-Some
returns-in_err-parse_elements-in-Some c =
    rw c.from_residual.ensures (no_elements c.args.text.now c.in-Some.ensures c.in_err-parse_elements-in-Some.ensures)

pub returns-in_ok-parse_elements-in-Some : goal.returns-in_ok-parse_elements-in-Some
returns-in_ok-parse_elements-in-Some c =
    c.parse_core.ensures ∙ array_type c.args.text.now c.in-Some.ensures c.in_ok-parse_elements-in-Some.ensures

pub returns-in-None : goal.returns-in-None
returns-in-None c = c.parse_core-in-None.ensures ∙ plain_type c.args.text.now c.in-None.ensures
