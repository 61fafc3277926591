-- `place_default` meets its contract: nothing is placed for an empty default.
use mathlib.Core.Path.{sym, ap, ◌∙◌}
use borrow.Author.Tests.{eqb-true, eqb-false}
use lib.ListN.{length}
use Rattle.write_spec.specs.Layout.{place_default}
use Rattle.write_spec.specs.Through.{through}
use Rattle.write_spec.specs.Canonical.{bytes_facts}
use Rattle.write_texts.specs.Simulates.{text_facts}
use Rattle.write_texts.specs.Scratch.{default_pool}
use Rattle.write_texts.proofs.PlacedInScratch.{placed_empty, placed_unless_empty}
use Rattle.write_texts.proofs.writer.Writer.place_default.Goals as goal

pub returns-then-is_empty-clause-placed : goal.returns-then-is_empty-clause-placed
unfolding default_pool place_default text_facts through bytes_facts
returns-then-is_empty-clause-placed c =
    placed_empty c.requires.pools_ready _ (ap length (sym c.name_part-bytes.ensures) ∙ eqb-true _ 0 (sym c.is_empty.ensures ∙ c.if-is_empty.true))

pub place_text-requires-clause-scratch_bound : goal.place_text-requires-clause-scratch_bound
unfolding default_pool
place_text-requires-clause-scratch_bound c = c.requires.scratch_bound

pub returns-clause-placed : goal.returns-clause-placed
unfolding default_pool place_default text_facts through bytes_facts
returns-clause-placed c =
    placed_unless_empty (λ none. eqb-false _ 0 (sym c.is_empty.ensures ∙ c.if-is_empty.false) (ap length c.name_part-bytes.ensures ∙ none))
    c.place_text.ensures.placed
