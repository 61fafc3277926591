use mathlib.Core.Path.{sym, ◌∙◌}
use native.Mathlib.Omega.{arith}
use Rattle.std.proofs.lemmas.Result.{err_from_is_err_and}
use Rattle.words.specs.Words.{word_at}
use Rattle.text.specs.Strings.{cstring_at}
use Rattle.tables.specs.Tables.{binding_record}
use Rattle.read_spec.specs.Read.{binding_from_chunk}
use Rattle.read_types.proofs.InChunk.{not_found, text_found, in_record}
use Rattle.read_tables.specs.Bindings.{code_check}
use Rattle.read_tables.proofs.Loop.{ends, stops, goes_on}
use Rattle.read_tables.proofs.Grown.{bindings_grown}
use Rattle.read_tables.proofs.OneBinding.{binding_full, binding_short, binding_coded_wrong, binding_named_badly, binding_written}
use Rattle.read_tables.proofs.bindings.walk_bindings.Goals as goal

pub returns-in_err-n-clause-walked : goal.returns-in_err-n-clause-walked
returns-in_err-n-clause-walked c =
    let p = err_from_is_err_and c.from_residual.result c.from_residual.ensures.1 in
    rw (p.1, p.2, c.in_err-n.ensures.refusal)
    (stops c.loop.invariant.going (omega arith)
    (binding_full _ _ _ c.args.filling.now.capacity c.loop.filling.counts _ (rw c.loop.invariant.kept.capacity at c.in_err-n.ensures.full)))

pub returns-in_err-record-clause-walked : goal.returns-in_err-record-clause-walked
returns-in_err-record-clause-walked c =
    let p = err_from_is_err_and c.from_residual-in_err-record.result c.from_residual-in_err-record.ensures.1 in
    rw (p.1, p.2, c.in_err-record.ensures.refusal)
    (stops c.loop.invariant.going (omega arith)
    (binding_short _ _ _ c.args.filling.now.capacity c.loop.filling.counts _ (rw c.loop.invariant.kept.capacity at c.in_ok-n.ensures.free)
    (cc (rw c.loop.invariant.chunk at c.in_err-record.ensures.outside, c.binding_stride-stride.ensures))))

pub returns-in_err-check_codes-clause-walked : goal.returns-in_err-check_codes-clause-walked
returns-in_err-check_codes-clause-walked c =
    let p = err_from_is_err_and c.from_residual-in_err-check_codes.result c.from_residual-in_err-check_codes.ensures.1 in
    let read = rw c.loop.invariant.chunk at c.in_ok-record.ensures.read in
    rw (p.1, p.2)
    (stops c.loop.invariant.going (omega arith)
    (binding_coded_wrong _ _ _ c.args.filling.now.capacity c.loop.filling.counts _ (rw c.loop.invariant.kept.capacity at c.in_ok-n.ensures.free)
    (cc (read.fits, c.binding_stride-stride.ensures))
    c.in_err-check_codes.field-0.0 (sym (in_record (λ s five wide at. code_check s at) read) ∙ sym c.in_err-check_codes.ensures)))

pub returns-in_err-name-clause-walked : goal.returns-in_err-name-clause-walked
returns-in_err-name-clause-walked c =
    let p = err_from_is_err_and c.from_residual-in_err-name.result c.from_residual-in_err-name.ensures.1 in
    let read = rw c.loop.invariant.chunk at c.in_ok-record.ensures.read in
    let bad = not_found _ c.in_err-name.ensures in
    rw (p.1, p.2, bad.refusal)
    (stops c.loop.invariant.going (omega arith)
    (binding_named_badly _ _ _ c.args.filling.now.capacity c.loop.filling.counts _ (rw c.loop.invariant.kept.capacity at c.in_ok-n.ensures.free)
    (cc (read.fits, c.binding_stride-stride.ensures))
    (sym (in_record (λ s five wide at. code_check s at) read) ∙ sym c.in_ok-check_codes.ensures)
    (sym (in_record (λ s five wide at. cstring_at s (word_at s at)) read) ∙ bad.none)))

pub loop-preserved : goal.loop-preserved
loop-preserved c =
    let kept = c.loop.invariant.kept in
    let read = rw c.loop.invariant.chunk at c.in_ok-record.ensures.read in
    let free = rw kept.capacity at c.in_ok-n.ensures.free in
    let found = text_found _ _ c.in_ok-name.ensures in
    record {
      going = rw (c.in_ok-n.ensures.one_more, c.in_ok-record.ensures.at) (goes_on c.loop.invariant.going (omega arith)
          (binding_written _ _ _ c.args.filling.now.capacity c.loop.filling.counts _ (rw kept.capacity at c.loop.filling.bindings_fit) free
          (cc (read.fits, c.binding_stride-stride.ensures))
          (sym (in_record (λ s five wide at. code_check s at) read) ∙ sym c.in_ok-check_codes.ensures)
          (sym (in_record (λ s five wide at. cstring_at s (word_at s at)) read) ∙ found.some) found.is
          (c.binding_record.ensures ∙ in_record (λ s five wide at. binding_record (binding_from_chunk s wide at c.in_ok-name.name)) read)
          (rw c.in_ok-n.ensures.is at c.put_binding.ensures))
          (bindings_grown c.args.filling.now.capacity c.loop.invariant.going.grew free)
          c.binding_stride-stride.ensures (omega arith));
      chunk = c.in_ok-record.ensures.chunk ∙ c.loop.invariant.chunk;
      kept = record {
        bindings = kept.bindings;
        bindings_long = c.put_binding.auto.table ∙ kept.bindings_long;
        capacity = kept.capacity;
        buffers = kept.buffers;
        variables = kept.variables;
        types = kept.types;
      };
    }

pub returns-clause-walked : goal.returns-clause-walked
returns-clause-walked c = ends c.loop.invariant.going (omega arith)
