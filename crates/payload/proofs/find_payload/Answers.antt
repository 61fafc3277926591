-- `find_payload` meets its contract: each test of the code is a test of the payload, and what is written is what `write_rdef_canonical` writes.
use Rattle.reflection.specs.Outcome.{Outcome}
use mathlib.Core.Path.{◌≡◌, sym, ap, ◌∙◌}
use lib.ListN.{length}
use Rattle.reflection.specs.Contents.{Bytes}
use Rattle.readable.specs.Readable.{readable}
use Rattle.write_spec.specs.Payload.{Part}
use Rattle.payload.specs.declared.Payload.{Payload}
use Rattle.payload.specs.Answer.{payload_answer, payload_output, written_answer, PayloadWritten}
use Rattle.payload.proofs.Answers.{enough_long, no_room_lem, not_readable_lem, the_chunk, the_output, written_answer_lem, written_output}
use Rattle.payload.proofs.find_payload.Goals as goal

-- What is left of an outcome is left of one that it equals.
left_as : {outcome asked : Outcome Part} {before after : Bytes} {r : Outcome Payload} → PayloadWritten outcome before after r → asked ≡ outcome
    → PayloadWritten asked before after r
left_as {before = before} left is = record {
  answer = left.answer ∙ ap payload_answer (sym is);
  out = left.out ∙ ap (λ (o : Outcome Part). payload_output o before) (sym is);
}

pub returns-then-not-enough-clause-payload : goal.returns-then-not-enough-clause-payload
returns-then-not-enough-clause-payload c =
    left_as c.refuse.ensures (no_room_lem _ _ _ _ (sym c.enough.ensures ∙ c.if-not-enough.true))

pub returns-then-not-readable-clause-payload : goal.returns-then-not-readable-clause-payload
unfolding readable
returns-then-not-readable-clause-payload c =
    left_as c.refuse-then-not-readable.ensures
    (not_readable_lem _ _ _ _ (sym c.enough.ensures ∙ c.if-not-enough.false) (sym c.readable.ensures ∙ c.if-not-readable.true))

pub unedited-requires-clause-binding_table_in_bounds : goal.unedited-requires-clause-binding_table_in_bounds
unedited-requires-clause-binding_table_in_bounds c =
    let long = enough_long _ _ _ _ _ (sym c.enough.ensures ∙ c.if-not-enough.false) in
    (long.bindings_long, (long.buffers_long, (long.variables_long, long.types_long)))

pub returns-then-unedited-clause-payload : goal.returns-then-unedited-clause-payload
unfolding readable payload_answer payload_output
returns-then-unedited-clause-payload c =
    let out = c.args.out.now in
    let room = sym c.enough.ensures ∙ c.if-not-enough.false in
    let reads = sym c.readable.ensures ∙ c.if-not-readable.false in
    let is = the_chunk _ (length out) _ _ room reads (sym c.unedited.ensures.answer ∙ c.if-unedited.true) in
    record { answer = sym (ap payload_answer is); out = sym (ap (λ (o : Outcome Part). payload_output o out) is) }

pub returns-clause-payload : goal.returns-clause-payload
unfolding readable
returns-clause-payload c =
    let out = c.args.out.now in
    let room = sym c.enough.ensures ∙ c.if-not-enough.false in
    let reads = sym c.readable.ensures ∙ c.if-not-readable.false in
    let wrote = c.write_rdef_canonical.ensures.written in
    let long = enough_long _ _ _ _ _ room in
    let is = the_output _ (length out) _ (length c.args.scratch.now) _ long.scratch_long room reads
    (sym c.unedited.ensures.answer ∙ c.if-unedited.false) in
    record {
      answer = c.written_payload.ensures ∙ ap written_answer wrote.answer ∙ sym (written_answer_lem _) ∙ ap payload_answer (sym is);
      out = wrote.out ∙ sym (written_output _ out) ∙ ap (λ (o : Outcome Part). payload_output o out) (sym is);
    }
