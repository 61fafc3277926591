-- `write_readable_type` meets its contract: the spelling, or that there is none.
use mathlib.Core.Path.{ap}
use native.Mathlib.Omega.{arith}
use lib.ListN.{length}
use Rattle.text_output.proofs.NameLength.{name_at_most}
use Rattle.spelling.specs.Spelling.{type_spelling}
use Rattle.spelling.proofs.WriteRefusals.{type_by_spelling, put_or_refused}
use Rattle.spelling.proofs.write.write_readable_type.Goals as goal

pub returns-clause-text : goal.returns-clause-text
returns-clause-text c =
    let a = c.args in
    let is = type_by_spelling a.texts.chunk.now a.texts.edits.now a.t c.requires.readable in
    rw c.ok_or.ensures.value
    (put_or_refused (type_spelling c.name_part-name.result.now a.t) a.out.now c.put_spelling.new.out (rw c.name_part-name.ensures is)
    c.put_spelling.result c.put_spelling.ensures.text)

pub returns-clause-near : goal.returns-clause-near
returns-clause-near c =
    let a = c.args in
    let short = name_at_most a.texts.chunk.now a.texts.edits.now a.t.name in
    omega (arith, c.put_spelling.ensures.near, ap length c.name_part-name.ensures, short)
