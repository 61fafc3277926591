-- `write_read_write` meets its contract: by the round trip (proofs/RoundTrip.antt); the second writing has what was read, the written part as its chunk, and
-- no edits.
use Rattle.std.specs.Prelude.{Err}
use mathlib.Core.Path.{refl, sym, ◌∙◌}
use native.Mathlib.Omega.{arith}
use lib.ListN.{length}
use Rattle.theorem_functions.proofs.RoundTrip.{ByteList, again_none, as_wrote, second_call, rescratched, round_trip_by}
use borrow.Author.Rules.{rules}
use Rattle.theorem_functions.proofs.write_read_write.Goals as goal

pub returns-in-Err : goal.returns-in-Err
returns-in-Err c =
    let first = c.write_and_read-first.ensures in
    let out-bytes : ByteList c.write_and_read-first.new.out = λ i. omega (arith, c.type_inv.out i) in
    round_trip_by _ _ _ _ _ first.words out-bytes _ first.calls refl
    (Err c.in-Err.refusal) (again_none _ _ _ first.calls _ _ c.in-Err.refusal (sym c.what_was_read.ensures ∙ c.in-Err.is))
    c.refuse-again.ensures.answer c.refuse-again.ensures.out

pub returns-in-Ok : goal.returns-in-Ok
returns-in-Ok c =
    let first = c.write_and_read-first.ensures in
    let is = as_wrote c.write_and_read-first.result c.in-Ok.length c.in-Ok.def (sym c.what_was_read.ensures ∙ c.in-Ok.is) in
    let wrote = c.write_rdef_canonical-again.ensures in
    let out-bytes : ByteList c.write_and_read-first.new.out = λ i. search rules in
    let held = c.reflection.ensures in
    round_trip_by _ _ _ _ _ first.words out-bytes _ (rescratched _ _ _ first.calls _ wrote.scratch) refl _
    (second_call _ _ _ first.calls out-bytes _ _ is (length c.args.second.now) c.part.ensures refl held.def held.bindings held.buffers held.variables
    held.types) wrote.written.answer wrote.written.out
