-- `place_in_pool` meets its contract: the text is found, or it is written and remembered.
use mathlib.Core.Path.{◌∙◌}
use Rattle.write_texts.proofs.Interning.{placed_found, placed_fresh}
use Rattle.write_texts.proofs.writer.place_in_pool.Goals as goal

pub returns-in-Some-clause-placed : goal.returns-in-Some-clause-placed
returns-in-Some-clause-placed c =
    placed_found _ _ c.args.pool c.args.text c.requires.has_room
    (record { wanted-is = c.new-wanted.ensures ∙ c.name_part.ensures; looked_is = c.find_text.ensures }) c.in-Some.is

pub returns-clause-placed : goal.returns-clause-placed
returns-clause-placed c =
    let put = c.put_text-offset.ensures in
    placed_fresh _ _ c.args.pool c.args.text c.requires.has_room
    (record { wanted-is = c.new-wanted.ensures ∙ c.name_part.ensures; looked_is = c.find_text.ensures })
    c.in_default.is c.args.source.short put.offset put.text.text c.remember.ensures
