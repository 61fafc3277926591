-- `put_columns` meets its contract: column after column.
use Rattle.text_output.proofs.Appended.{appended_then}
use Rattle.listing.specs.Listing.{columns}
use Rattle.listing.proofs.put_columns.Goals as goal

pub returns : goal.returns
unfolding columns
returns c =
    let typed = c.put_input_type.ensures.text in
    let dimensioned = c.put_dimension.ensures.text in
    let slotted = c.put_number.ensures.text in
    let counted = c.put_number-2.ensures.text in
    appended_then typed (appended_then dimensioned (appended_then slotted (appended_then counted c.put_flags.ensures)))
