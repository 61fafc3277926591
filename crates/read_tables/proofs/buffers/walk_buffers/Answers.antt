use mathlib.Core.Path.{◌≡◌, refl, sym, ◌∙◌}
use Prim.Native.Nat.{ℕ, ◌+◌, ◌<◌}
use native.Mathlib.Omega.{arith}
use Rattle.std.proofs.lemmas.Result.{err_from_is_err_and}
use Rattle.words.specs.Words.{word_at}
use Rattle.text.specs.Strings.{cstring_at}
use Rattle.reflection.specs.Strides.{buffer_stride}
use Rattle.read_spec.specs.declared.Counts.{Counts}
use Rattle.read_types.specs.declared.chunk.Chunk.{Chunk}
use Rattle.read_types.specs.declared.chunk.Record.{Record}
use Rattle.read_types.specs.Chunk.{RecordAt}
use Rattle.read_types.proofs.InChunk.{not_found, text_found, in_record}
use Rattle.read_tables.specs.Buffers.{buffer_record_in_chunk, buffers_in}
use Rattle.read_tables.proofs.Loop.{ends, stops, goes_on}
use Rattle.read_tables.proofs.Put.{has_room}
use Rattle.read_tables.proofs.Grown.{buffers_grown}
use Rattle.read_tables.proofs.OneBuffer.{buffer_full, buffer_short, BufferEntered, buffer_refused, buffer_named_badly, buffer_filled}
use Rattle.read_tables.proofs.buffers.walk_buffers.Goals as goal

-- A buffer's record was read.
entered : {chunk : Chunk} {r : Record} {at many start : ℕ} {capacity n : Counts} → n.buffers < capacity.buffers → RecordAt chunk at buffer_stride r
    → many ≡ word_at r.chunk.bytes.now (r.at + 4) → start ≡ word_at r.chunk.bytes.now (r.at + 8)
    → BufferEntered chunk.bytes.now at capacity n many start
entered free read many start = record {
  free = free;
  fits = read.fits;
  is_many = many ∙ in_record (λ s five wide at. word_at s (at + 4)) read;
  is_start = start ∙ in_record (λ s five wide at. word_at s (at + 8)) read;
}

pub returns-in_err-n-clause-walked : goal.returns-in_err-n-clause-walked
returns-in_err-n-clause-walked c =
    let p = err_from_is_err_and c.from_residual.result c.from_residual.ensures.1 in
    rw (p.1, p.2, c.in_err-n.ensures.refusal)
    (stops c.loop.invariant.going (omega arith)
    (buffer_full _ _ _ c.args.filling.now.capacity c.loop.filling.counts _ (rw c.loop.invariant.kept.capacity at c.in_err-n.ensures.full)))

pub returns-in_err-record-clause-walked : goal.returns-in_err-record-clause-walked
returns-in_err-record-clause-walked c =
    let p = err_from_is_err_and c.from_residual-in_err-record.result c.from_residual-in_err-record.ensures.1 in
    let now = c.loop in
    rw (p.1, p.2, c.in_err-record.ensures.refusal)
    (stops c.loop.invariant.going (omega arith) {after = buffers_in now.buffer_table now.variable_table now.filling.types.now}
    (buffer_short _ _ _ c.args.filling.now.capacity c.loop.filling.counts _ (rw c.loop.invariant.kept.capacity at c.in_ok-n.ensures.free)
    (rw c.loop.invariant.chunk at c.in_err-record.ensures.outside)))

pub returns-in_err-walk_variables-clause-walked : goal.returns-in_err-walk_variables-clause-walked
returns-in_err-walk_variables-clause-walked c =
    let p = err_from_is_err_and c.from_residual-in_err-walk_variables.result c.from_residual-in_err-walk_variables.ensures.1 in
    let kept = c.loop.invariant.kept in
    let new = c.walk_variables.new in
    rw (p.1, p.2)
    (stops c.loop.invariant.going (omega arith) {after = buffers_in c.loop.buffer_table new.table new.filling.types.now}
    (buffer_refused
    (entered (rw kept.capacity at c.in_ok-n.ensures.free) (rw c.loop.invariant.chunk at c.in_ok-record.ensures.read) c.word-in-loop.ensures c.word.ensures)
    _ _ _ _ _ _
    (rw (kept.capacity, c.in_ok-n.ensures.one_more, c.in_ok-record.ensures.chunk, c.loop.invariant.chunk) at c.in_err-walk_variables.ensures.walked)))

pub returns-in_err-name-clause-walked : goal.returns-in_err-name-clause-walked
returns-in_err-name-clause-walked c =
    let p = err_from_is_err_and c.from_residual-in_err-name.result c.from_residual-in_err-name.ensures.1 in
    let kept = c.loop.invariant.kept in
    let read = rw c.loop.invariant.chunk at c.in_ok-record.ensures.read in
    let bad = not_found _ c.in_err-name.ensures in
    let new = c.walk_variables.new in
    rw (p.1, p.2, bad.refusal)
    (stops c.loop.invariant.going (omega arith) {after = buffers_in c.loop.buffer_table new.table new.filling.types.now}
    (buffer_named_badly
    (entered (rw kept.capacity at c.in_ok-n.ensures.free) read c.word-in-loop.ensures c.word.ensures)
    _ _ _ _ _ _ (rw (kept.capacity, c.in_ok-n.ensures.one_more, c.in_ok-record.ensures.chunk, c.loop.invariant.chunk) at c.in_ok-walk_variables.ensures.walked)
    (sym (in_record (λ s five wide at. cstring_at s (word_at s at)) read) ∙ bad.none)))

pub loop-preserved : goal.loop-preserved
loop-preserved c =
    let kept = c.loop.invariant.kept in
    let read = rw c.loop.invariant.chunk at c.in_ok-record.ensures.read in
    let free = rw kept.capacity at c.in_ok-n.ensures.free in
    let walked =
    rw (kept.capacity, c.in_ok-n.ensures.one_more, c.in_ok-record.ensures.chunk, c.loop.invariant.chunk) at c.in_ok-walk_variables.ensures.walked in
    let then = c.in_ok-walk_variables.ensures.kept in
    let found = text_found _ _ c.in_ok-name.ensures in
    record {
      going = rw c.in_ok-record.ensures.at (goes_on c.loop.invariant.going (omega arith)
          (buffer_filled
          (entered free read c.word-in-loop.ensures c.word.ensures)
          _ _ _ _ _ _ walked (rw kept.capacity at kept.buffers_fit)
          (sym (in_record (λ s five wide at. cstring_at s (word_at s at)) read) ∙ found.some) found.is
          (c.buffer_record.ensures ∙ in_record (λ s five wide at. buffer_record_in_chunk s at c.in_ok-name.name) read)
          (rw c.in_ok-n.ensures.is at c.put_buffer.ensures))
          (buffers_grown c.args.filling.now.capacity c.loop.invariant.going.grew free walked.grew)
          refl (omega arith));
      chunk = c.in_ok-record.ensures.chunk ∙ c.loop.invariant.chunk;
      kept = record {
        types = then.types ∙ kept.types;
        types_long = then.types_long ∙ kept.types_long;
        capacity = then.capacity ∙ kept.capacity;
        bindings = then.bindings ∙ kept.bindings;
        buffers_fit = has_room kept.buffers_fit (λ i. (then.capacity i).buffers)
            (omega (arith, then.buffers, c.in_ok-n.ensures.one_more, c.in_ok-n.ensures.free)) c.put_buffer.auto.table;
        variables_fit = then.variables_fit;
      };
    }

pub returns-clause-walked : goal.returns-clause-walked
returns-clause-walked c = ends c.loop.invariant.going (omega arith)
