-- `hlsl_type_name` meets its contract: what `answer` leaves is what the lent output ends as.
use Rattle.std.proofs.Common.{rules, refl}
use Rattle.spelling.proofs.write.hlsl_type_name.Goals as goal

pub returns : goal.returns
returns c =
    let done = c.answer.ensures.answer _ _ refl c.write_type-written.ensures.text in
    record { answer = done.answer; out = search rules }
