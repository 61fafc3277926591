-- `place_buffers` meets its contract: padding, the names and the sections from behind the records' room, and the records into the room.
use mathlib.Core.Path.{ap}
use native.Mathlib.Omega.{arith}
use Rattle.write_tables.proofs.Advance.{moved_to}
use Rattle.write_tables.proofs.AllBuffers.{no_buffers, start_near, names_ready, sections_ready, buffers_placed}
use Rattle.write_tables.proofs.Writers.{same_lent, still_beginning}
use Rattle.write_tables.proofs.buffers.place_buffers.Goals as goal

pub returns-then-count-eq0 : goal.returns-then-count-eq0
returns-then-count-eq0 c = record { placed = no_buffers c.requires c.if-count-eq0.true; same = same_lent c.args.w.now }

pub overflow_add-w : goal.overflow_add-w
overflow_add-w c =
    let ready = c.requires in
    omega (arith, start_near ready c.put_padding.ensures.text, ready.few_buffers)

pub place-requires : goal.place-requires
place-requires c = names_ready c.requires c.put_padding.ensures.text

pub place_sections-requires : goal.place_sections-requires
place_sections-requires c =
    let named = c.place.ensures in
    sections_ready c.requires c.put_padding.ensures.text named.placed (still_beginning named.same (ap (moved_to _) c.requires.no_types))

pub put_buffer_records-requires : goal.put_buffer_records-requires
put_buffer_records-requires c =
    let ready = c.requires in
    record {
      long = c.place_sections.ensures.placed.advance.ready.long;
      few = ready.few_buffers;
      near = omega (arith, start_near ready c.put_padding.ensures.text);
    }

pub overflow_cast-result : goal.overflow_cast-result
overflow_cast-result c = omega (arith, start_near c.requires c.put_padding.ensures.text)

pub returns-clause-placed : goal.returns-clause-placed
returns-clause-placed c =
    let written = c.put_buffer_records.ensures in
    buffers_placed c.requires c.put_padding.ensures.text c.place.ensures.placed c.if-count-eq0.false
    c.place_sections.ensures.placed written.put written.scratch
