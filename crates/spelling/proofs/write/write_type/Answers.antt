-- `write_type` meets its contract: the test of the type, then the spelling.
use mathlib.Core.List.{[]}
use mathlib.Core.Path.{sym, ◌∙◌}
use Rattle.text_output.proofs.Appended.{appended_none}
use Rattle.spelling.proofs.WriteRefusals.{type_unreadable}
use Rattle.spelling.proofs.write.write_type.Goals as goal

pub returns-then-not-type_readable-clause-text : goal.returns-then-not-type_readable-clause-text
returns-then-not-type_readable-clause-text c =
    let a = c.args in
    let unreadable = type_unreadable a.texts.chunk.now a.texts.edits.now a.t (sym c.type_readable.ensures ∙ c.if-not-type_readable.true) in
    record { bytes = []; is = unreadable; put = appended_none a.out.now }
