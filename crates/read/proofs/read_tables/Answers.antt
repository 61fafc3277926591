-- `read_tables` meets its contract: each way out is a law of the header and the two walks, from what they ensure. Assumes nothing.
use mathlib.Core.Path.{◌≡◌}
use native.Mathlib.Omega.{arith}
use Rattle.std.proofs.Common.{rules}
use Rattle.std.proofs.lemmas.Result.{err_from_is_err_and}
use Rattle.read.proofs.Tables.{no_records, header_refused, bindings_refused, buffers_refused, tables_filled}
use Rattle.read.proofs.read_tables.Goals as goal

pub returns-in_err-header-clause-filled : goal.returns-in_err-header-clause-filled
returns-in_err-header-clause-filled c =
    let p = err_from_is_err_and c.from_residual.result c.from_residual.ensures.1 in
    rw (p.1, p.2) (header_refused c.args.bytes.now _ c.in_err-header.ensures)

pub returns-in_err-walk_bindings-clause-filled : goal.returns-in_err-walk_bindings-clause-filled
returns-in_err-walk_bindings-clause-filled c =
    let none : c.default.result ≡ no_records = search rules in
    let p = err_from_is_err_and c.from_residual-in_err-walk_bindings.result c.from_residual-in_err-walk_bindings.ensures.1 in
    rw (p.1, p.2)
    (bindings_refused c.args.bytes.now c.capacity_of-capacity.ensures c.in_ok-header.header c.in_ok-header.ensures
    c.word_at-2.ensures c.word_at.ensures _ _ (rw none at c.in_err-walk_bindings.ensures.walked))

pub returns-in_err-walk_buffers-clause-filled : goal.returns-in_err-walk_buffers-clause-filled
returns-in_err-walk_buffers-clause-filled c =
    let none : c.default.result ≡ no_records = search rules in
    let p = err_from_is_err_and c.from_residual-in_err-walk_buffers.result c.from_residual-in_err-walk_buffers.ensures.1 in
    let kept = c.in_ok-walk_bindings.ensures.kept in
    rw (p.1, p.2)
    (buffers_refused c.args.bytes.now c.capacity_of-capacity.ensures c.in_ok-header.header c.in_ok-header.ensures
    c.word_at-2.ensures c.word_at.ensures _ (rw none at c.in_ok-walk_bindings.ensures.walked)
    c.word_at-4.ensures c.word_at-3.ensures _ _ _ _
    c.in_err-walk_buffers.ensures.walked)

pub returns-clause-filled : goal.returns-clause-filled
returns-clause-filled c =
    let none : c.default.result ≡ no_records = search rules in
    let kept = c.in_ok-walk_bindings.ensures.kept in
    let then = c.in_ok-walk_buffers.ensures.kept in
    let filled =
    tables_filled c.args.bytes.now c.capacity_of-capacity.ensures c.in_ok-header.header c.in_ok-header.ensures
    c.word_at-2.ensures c.word_at.ensures c.walk_bindings.new.filling.bindings.now (rw none at c.in_ok-walk_bindings.ensures.walked)
    c.word_at-4.ensures c.word_at-3.ensures c.walk_buffers.new.buffer_table c.walk_buffers.new.variable_table c.walk_buffers.new.filling.types.now
    c.in_ok-walk_buffers.ensures.walked
    kept.bindings_long c.walk_buffers.auto.buffer_table c.walk_buffers.auto.variable_table then.types_long
    c.word_at-5.ensures c.word_at-6.ensures c.word_if.ensures c.word_if-2.ensures c.word_if-3.ensures in
    record {
      answer = filled.answer;
      rows = (
        grind (arith, filled.rows.0),
        (
          grind (arith, filled.rows.1.0),
          (
            grind (arith, filled.rows.1.1.0),
            grind (arith, filled.rows.1.1.1),
          ),
        ),
      );
    }
