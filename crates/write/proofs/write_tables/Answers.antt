-- `write_tables` meets its contract: each test of the code is a test of `write`, and what was put is the canonical form.
use Rattle.reflection.specs.Outcome.{Outcome}
use Rattle.std.specs.Prelude.{Ok}
use Rattle.std.proofs.Common.{rules}
use mathlib.Core.Path.{◌≡◌, sym, ap, ◌∙◌}
use mathlib.Core.List.{List}
use Prim.Native.Nat.{ℕ}
use native.Mathlib.Omega.{arith}
use lib.ListN.{length}
use Rattle.readable.specs.Readable.{table_contents}
use Rattle.readable.proofs.ReadableTables.{readable_holds}
use Rattle.text_output.specs.Written.{fitting, written_of, output_of, Written}
use Rattle.write.specs.WriteInto.{WrittenInto}
use Rattle.write.proofs.Answers.{short_scratch, unreadable, writable, chunk_into}
use Rattle.write.proofs.TablesSized.{texts_short, tables_sized, same_canonical}
use Rattle.write.proofs.write_tables.Goals as goal

-- What a refusal leaves, where the outcome is that refusal.
refusal-left : {outcome asked : Outcome (List ℕ)} {before after : List ℕ} {r : Written} → r ≡ written_of outcome → after ≡ output_of outcome before
    → asked ≡ outcome
    → WrittenInto asked before after r
refusal-left {before = before} answer out is = record {
  answer = answer ∙ ap written_of (sym is);
  out = out ∙ ap (λ (o : Outcome (List ℕ)). output_of o before) (sym is);
}

pub returns-then-scratch-lt-SCRATCH_WORDS-clause-written : goal.returns-then-scratch-lt-SCRATCH_WORDS-clause-written
returns-then-scratch-lt-SCRATCH_WORDS-clause-written c =
    let a = c.args in
    let refused = c.refuse.ensures in
    let tables = table_contents a.texts.chunk.now a.texts.edits.now a.r.def a.r.bindings.now a.r.buffers.now a.r.variables.now a.r.types.now in
    refusal-left refused.answer refused.out (short_scratch (length a.scratch.now) (length a.out.now) tables c.if-scratch-lt-SCRATCH_WORDS.true)

pub returns-then-not-readable-clause-written : goal.returns-then-not-readable-clause-written
returns-then-not-readable-clause-written c =
    let a = c.args in
    let refused = c.refuse-then-not-readable.ensures in
    let is =
    unreadable (length a.scratch.now) (length a.out.now) (omega (arith, c.if-scratch-lt-SCRATCH_WORDS.false))
    a.texts.chunk.now a.texts.edits.now a.r.def a.r.bindings.now a.r.buffers.now a.r.variables.now a.r.types.now
    (sym c.readable.ensures ∙ c.if-not-readable.true) in
    refusal-left refused.answer refused.out is

pub write_chunk-requires-clause-sources_fit : goal.write_chunk-requires-clause-sources_fit
write_chunk-requires-clause-sources_fit c = texts_short (readable_holds _ _ _ _ _ _ _ (sym c.readable.ensures ∙ c.if-not-readable.false))

pub write_chunk-requires-clause-sized : goal.write_chunk-requires-clause-sized
write_chunk-requires-clause-sized c = tables_sized (readable_holds _ _ _ _ _ _ _ (sym c.readable.ensures ∙ c.if-not-readable.false))

pub returns-clause-written : goal.returns-clause-written
returns-clause-written c =
    let a = c.args in
    let held = readable_holds _ _ _ _ _ _ _ (sym c.readable.ensures ∙ c.if-not-readable.false) in
    let same = ap (λ (bytes : List ℕ). fitting (length a.out.now) (Ok bytes)) (same_canonical held) in
    let is = same ∙ sym (writable (length a.scratch.now) (length a.out.now) (omega (arith, c.if-scratch-lt-SCRATCH_WORDS.false)) held) in
    chunk_into c.write_chunk.ensures.written.written is (c.finish.ensures.answer, search rules)
