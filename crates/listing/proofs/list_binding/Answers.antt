-- `list_binding` meets its contract: a refusal where the name cannot be printed, else the line where it fits.
use Rattle.std.proofs.Common.{rules}
use mathlib.Core.Path.{ap}
use mathlib.Core.Bool.{not}
use native.Mathlib.Omega.{arith}
use lib.ListN.{length}
use Rattle.text_output.proofs.Fitting.{refused_answers, finished_answers}
use Rattle.text_output.proofs.NameLength.{name_at_most}
use Rattle.listing.proofs.Listed.{name_unprintable, line_listed}
use Rattle.listing.proofs.list_binding.Goals as goal

pub returns-then-not-printable : goal.returns-then-not-printable
returns-then-not-printable c =
    let a = c.args in
    let refused = c.refuse.ensures in
    let e = name_unprintable a.texts.chunk.now a.texts.edits.now a.b c.printable.ensures (ap not c.if-not-printable.true) in
    refused_answers e (refused.answer, refused.out)

pub put_line-requires : goal.put_line-requires
put_line-requires c =
    let a = c.args in
    let good = c.well_formed in
    omega (arith, ap length c.name_part.ensures, name_at_most a.texts.chunk.now a.texts.edits.now a.b.name, good.1.1.0)

pub returns : goal.returns
returns c =
    let a = c.args in
    let line = line_listed a.texts.chunk.now a.texts.edits.now a.b c.printable.ensures (ap not c.if-not-printable.false)
    c.name_part.ensures in
    finished_answers line c.put_line.ensures.text (c.finish.ensures.answer, search rules)
