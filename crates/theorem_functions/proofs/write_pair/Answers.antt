-- `write_pair` meets its contract: by noninterference (proofs/Noninterference.antt), since what is lent as words is words.
use Rattle.theorem_functions.proofs.Noninterference.{noninterference}
use Rattle.theorem_functions.proofs.write_pair.Goals as goal

pub returns-clause-calls : goal.returns-clause-calls
returns-clause-calls c =
    let a = c.write_and_read-answer_a.ensures in
    let b = c.write_and_read-answer_b.ensures in
    record { calls_a = a.calls; calls_b = b.calls; demand = λ shared. noninterference _ _ _ _ _ a.words a.calls b.calls shared }
