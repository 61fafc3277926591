use mathlib.Core.Path.{sym}
use native.Mathlib.Nat.{zero-add}
use native.Mathlib.Omega.{arith}
use Rattle.write_tables.proofs.Rows.{rows_none, rows_more, rows_all, row_ready, short_buffer_row}
use Rattle.write_tables.proofs.records.put_buffer_records.Goals as goal

pub loop-i-init : goal.loop-i-init
loop-i-init c = rows_none

pub put_buffer_record-requires : goal.put_buffer_record-requires
put_buffer_record-requires c =
    let more = c.loop-i-test.true in
    row_ready c.loop-i.invariant c.requires (omega (arith, more)) (short_buffer_row c.args.buffers.now c.args.w.now.scratch.now)
    (omega (arith, more, c.requires.few))

pub loop-i-preserved : goal.loop-i-preserved
loop-i-preserved c = rows_more c.loop-i.invariant c.loop-i-test.true (sym (zero-add c.loop-i.i)) c.put_buffer_record.ensures

pub returns : goal.returns
returns c = rows_all c.loop-i.invariant c.loop-i-test.false
