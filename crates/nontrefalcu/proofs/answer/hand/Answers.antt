-- `hand` meets its contract: a refusal's number and the cleared words, or 0 and the value's words on cleared ones.
use mathlib.Core.Path.{refl, ◌∙◌}
use Rattle.nontrefalcu.proofs.HandedOut.{value_number, refused_number, value_table, refused_table}
use Rattle.nontrefalcu.proofs.answer.hand.Goals as goal

pub returns-in-Err : goal.returns-in-Err
returns-in-Err g c =
    let refusal = c.in-Err.is in
    record { number = c.from.ensures ∙ refused_number refusal; words = refused_table _ _ c.clear.ensures refusal }

pub returns-in-Ok : goal.returns-in-Ok
returns-in-Ok g c =
    let value = c.in-Ok.is in
    record { number = value_number value; words = value_table _ _ c.clear.ensures value refl c.overwrite.ensures }
