-- `declaration` meets its contract: what `answer` leaves is what the lent output ends as.
use Rattle.std.proofs.Common.{rules, refl}
use Rattle.spelling.proofs.write.declaration.Goals as goal

pub returns : goal.returns
returns c =
    let done = c.answer.ensures.answer _ _ refl c.write_declaration-written.ensures in
    record { answer = done.answer; out = search rules }
