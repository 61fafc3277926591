use native.Mathlib.Omega.{arith}
use Rattle.write_tables.proofs.OneSection.{field_counted}
use Rattle.write_tables.proofs.SectionsLoop.{sections_none, section_ready, next_below, sections_more, sections_all}
use Rattle.write_tables.proofs.Writers.{same_lent, lent_then}
use Rattle.write_tables.proofs.buffers.place_sections.Goals as goal

pub loop-buffer-init : goal.loop-buffer-init
loop-buffer-init c = (sections_none c.requires c.requires.no_types, same_lent c.args.w.now)

pub place_section-requires : goal.place_section-requires
place_section-requires c = section_ready c.requires c.loop-buffer.invariant.0 c.loop-buffer-test.true

pub overflow_add-variable : goal.overflow_add-variable
overflow_add-variable c =
    let counted = field_counted c.args.r.buffers.now c.loop-buffer.buffer c.buffer_at.ensures in
    omega (arith, next_below c.requires c.loop-buffer.invariant.0 c.loop-buffer-test.true counted)

pub loop-buffer-preserved : goal.loop-buffer-preserved
loop-buffer-preserved c =
    let counted = field_counted c.args.r.buffers.now c.loop-buffer.buffer c.buffer_at.ensures in
    let placed = c.place_section.ensures in (
      sections_more c.requires c.loop-buffer.invariant.0 c.loop-buffer-test.true counted placed.placed,
      lent_then c.loop-buffer.invariant.1 placed.same,
    )

pub returns : goal.returns
returns c = record { placed = sections_all c.loop-buffer.invariant.0 c.loop-buffer-test.false; same = c.loop-buffer.invariant.1 }
