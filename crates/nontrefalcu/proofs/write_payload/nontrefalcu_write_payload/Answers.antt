-- `nontrefalcu_write_payload` meets its contract: the answer is that of `write_payload` for the header that the words are.
use Rattle.reflection.specs.Outcome.{Outcome}
use mathlib.Core.Path.{ap, ◌∙◌}
use mathlib.Core.List.{List}
use Prim.Native.Nat.{ℕ}
use lib.ListN.{length}
use Rattle.reflection.specs.declared.ResourceDef.{ResourceDef as Header}
use Rattle.readable.specs.Readable.{table_contents}
use Rattle.write_spec.specs.Payload.{Part}
use Rattle.payload.specs.Answer.{room_enough, payload_with, payload_output}
use Rattle.nontrefalcu.specs.Exports.{number_of, result_table}
use Rattle.nontrefalcu.specs.PayloadWords.{payload_into}
use Rattle.nontrefalcu.proofs.PayloadAnswers.{payload_fits, handed_payload}
use Rattle.nontrefalcu.proofs.write_payload.nontrefalcu_write_payload.Goals as goal

pub payload_words-requires : goal.payload_words-requires
payload_words-requires c =
    payload_fits _ _ _ _ _ _ _ _ _ c.write_payload-payload.ensures.payload.answer

pub returns-clause-payload : goal.returns-clause-payload
unfolding payload_into
returns-clause-payload c =
    let a = c.args in
    let enough = room_enough (length a.found_bindings.now) (length a.found_buffers.now) (length a.found_variables.now)
    (length a.found_types.now) (length a.scratch.now) in
    let outcome : Header → Outcome Part = λ (h : Header). payload_with enough (length a.out.now) a.chunk.now
    (table_contents a.chunk.now a.edits.now h a.bindings.now a.buffers.now a.variables.now a.types.now) in
    let asked = ap outcome c.header_at.ensures in
    let wrote = c.write_payload-payload.ensures in
    let numbers = c.hand.ensures in
    let words = c.payload_words.ensures in
    let n = length a.answer.now in
    let handed = handed_payload asked a.chunk.now n wrote.payload.answer (
      numbers.number ∙ ap (λ (o : Outcome (List ℕ)). number_of o) words,
      numbers.words ∙ ap (λ (o : Outcome (List ℕ)). result_table (λ w. w) o n) words,
    ) in
    record {
      answered = handed.0;
      out = wrote.payload.out ∙ ap (λ (o : Outcome Part). payload_output o a.out.now) asked;
      answer = handed.1;
    }
