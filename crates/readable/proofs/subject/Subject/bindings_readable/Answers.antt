-- `bindings_readable` meets its contract: it asks each binding in turn. Assumes nothing.
use mathlib.Core.Path.{refl, ◌∙◌}
use borrow.Author.Tests.{tests}
use Rattle.std.proofs.Common.{arith, rules}
use Rattle.std.proofs.lemmas.Iterator.{YieldsList-from_range}
use Rattle.std.proofs.lemmas.Iterator.Search.{all_from_yields_List}
use Rattle.reflection.specs.Rd11.{rd11_from_header}
use Rattle.reflection.specs.Reflection.{is_wide}
use Rattle.tables.specs.Records.{binding_at}
use Rattle.readable.specs.Checks.{binding_checked, bindings_checked}
use Rattle.readable.proofs.RecordTests.{every_record}
use Rattle.readable.proofs.subject.Subject.bindings_readable.Goals as goal

pub returns : goal.returns
unfolding bindings_checked
returns c =
    let subject = c.args.self.now in
    let checked = binding_checked subject.texts.chunk.now subject.texts.edits.now (is_wide (rd11_from_header subject.r.def)) in
    all_from_yields_List (λ i. checked (binding_at subject.r.bindings.now i)) _ _ _ c.all.ensures.ran
    (YieldsList-from_range 0 subject.r.def.binding_count subject.r.def.binding_count refl (omega arith)) (λ x b q k. search (rules, tests))
    ∙ every_record checked (binding_at subject.r.bindings.now) 0 subject.r.def.binding_count
