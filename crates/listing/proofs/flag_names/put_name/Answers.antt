-- `put_name` meets its contract: a first name, or a `;` and a name.
use borrow.Author.Tests.{eq-eqb, ne_eqb}
use Rattle.text_output.proofs.Appended.{appended_then}
use Rattle.listing.proofs.flag_names.put_name.Goals as goal
use Rattle.listing.proofs.flag_names.put_name.Goals.{then-out-start, else-out-start}

pub returns-clause-text : goal.returns-clause-text
returns-clause-text c =
    let at = c.args.out.now.at in
    elim c.if-out-start.branch [
      | then-out-start w ↦ rw (ne_eqb at c.args.start w.if-out-start.true) (appended_then w.put_byte.ensures (rw w.out-is at c.put_bytes.ensures))
      | else-out-start w ↦ rw (eq-eqb at c.args.start w.if-out-start.false) (rw w.out-is at c.put_bytes.ensures)
    ]
