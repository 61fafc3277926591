-- `place_section` meets its contract: padding, the variables from behind their records' room, and the records into the room.
use mathlib.Core.Path.{refl}
use native.Mathlib.Omega.{arith}
use Rattle.write_tables.proofs.OneSection.{field_counted, few_variables, near_start, records_short, start_near, variables_ready, section_placed}
use Rattle.write_tables.proofs.Writers.{moved_same}
use Rattle.write_tables.proofs.buffers.place_section.Goals as goal

pub put_padding-requires : goal.put_padding-requires
put_padding-requires c = omega (arith, near_start c.requires (field_counted c.args.r.buffers.now c.args.buffer c.buffer_at-fields.ensures))

pub overflow_mul-w : goal.overflow_mul-w
overflow_mul-w c =
    let counted = field_counted c.args.r.buffers.now c.args.buffer c.buffer_at-fields.ensures in
    omega (arith, records_short c.requires counted c.args.source.sm5 c.variable_size.ensures)

pub overflow_mul-w-2 : goal.overflow_mul-w-2
overflow_mul-w-2 c =
    let counted = field_counted c.args.r.buffers.now c.args.buffer c.buffer_at-fields.ensures in
    omega (arith, records_short c.requires counted c.args.source.sm5 c.variable_size.ensures)

pub overflow_add-w : goal.overflow_add-w
overflow_add-w c =
    let ready = c.requires in
    omega (
      arith,
      records_short ready (field_counted c.args.r.buffers.now c.args.buffer c.buffer_at-fields.ensures) c.args.source.sm5 c.variable_size.ensures,
      start_near ready (field_counted c.args.r.buffers.now c.args.buffer c.buffer_at-fields.ensures) c.put_padding.ensures.text,
    )

pub place_variables-requires : goal.place_variables-requires
place_variables-requires c =
    let counted = field_counted c.args.r.buffers.now c.args.buffer c.buffer_at-fields.ensures in
    variables_ready c.requires counted c.args.source.sm5 c.variable_size.ensures c.put_padding.ensures.text

pub put_variable_records-requires : goal.put_variable_records-requires
put_variable_records-requires c =
    let ready = c.requires in
    record {
      long = c.place_variables.ensures.placed.advance.ready.long;
      few = few_variables ready (field_counted c.args.r.buffers.now c.args.buffer c.buffer_at-fields.ensures);
      near = omega (arith, start_near ready (field_counted c.args.r.buffers.now c.args.buffer c.buffer_at-fields.ensures) c.put_padding.ensures.text);
    }

pub overflow_cast-w : goal.overflow_cast-w
overflow_cast-w c =
    let counted = field_counted c.args.r.buffers.now c.args.buffer c.buffer_at-fields.ensures in
    omega (arith, start_near c.requires counted c.put_padding.ensures.text)

pub returns-clause-placed : goal.returns-clause-placed
returns-clause-placed c =
    let counted = field_counted c.args.r.buffers.now c.args.buffer c.buffer_at-fields.ensures in
    let written = c.put_variable_records.ensures in
    section_placed c.requires counted c.args.source.sm5 c.variable_size.ensures c.put_padding.ensures.text
    c.buffer_at-fields.ensures refl c.place_variables.ensures.placed written.put written.scratch (moved_same written.same c.place_variables.new.w.out.now.at)
