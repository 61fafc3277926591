-- `write_rdef_canonical` meets its contract: the answer and the output are those of `write_tables`, and the scratch, which kept its length, is cleared.
use mathlib.Core.Path.{◌∙◌}
use Rattle.write.proofs.Answers.{cleared_whole}
use Rattle.write.proofs.write_rdef_canonical.Goals as goal

pub returns : goal.returns
returns c =
    let written = c.write_tables-written.ensures in let cleared = c.clear_from.ensures in
    record { written = written.written; scratch = cleared ∙ cleared_whole written.scratch }
