-- `unedited` meets its contract: what was read into the tables is compared with the readable reflection; a chunk that does not read is not equal.
use mathlib.Core.Path.{sym, ap, ◌∙◌}
use Rattle.std.specs.Prelude.{Ok}
use Rattle.readable.proofs.ReadableTables.{readable_holds}
use Rattle.read.specs.Parsed.{read_into}
use Rattle.read.proofs.Held.{held as held_of, zeroed}
use Rattle.write.proofs.TablesSized.{tables_sized}
use Rattle.payload.proofs.Comparing.{full_room_lem, found_readable, unread_edited, read_compared}
use Rattle.payload.proofs.unedited.Goals as goal

pub same_reflection-requires : goal.same_reflection-requires
same_reflection-requires c =
    let found = c.args.found.now in
    let parsed = c.read_again.ensures.parsed in
    let held = c.reflection.ensures in
    let read =
    held_of _ _ _ _ (read_into c.args.texts.chunk.now found.bindings.now found.buffers.now found.variables.now found.types.now) _
    (ap Ok held.header ∙ sym c.in-Ok.is ∙ parsed.answer) (held.bindings ∙ parsed.bindings) (held.buffers ∙ parsed.buffers)
    (held.variables ∙ parsed.variables) (held.types ∙ parsed.types) in
    record {
      sized = tables_sized (found_readable _ c.read_again.ensures.bytes _ _ _ _ read);
      sized_2 = tables_sized (readable_holds _ _ _ _ _ _ _ c.requires.types_value);
    }

pub returns-in-Err-clause-answer : goal.returns-in-Err-clause-answer
returns-in-Err-clause-answer c =
    let found = c.args.found.now in
    let parsed = c.read_again.ensures.parsed in
    let long = c.requires.binding_table_in_bounds in
    let whole = full_room_lem _ _ _ _ long.0 long.1.0 long.1.1.0 long.1.1.1 in
    let unread =
    zeroed _ _ _ _ (read_into c.args.texts.chunk.now found.bindings.now found.buffers.now found.variables.now found.types.now) _
    (sym c.in-Err.is ∙ parsed.answer) parsed.bindings parsed.buffers parsed.variables parsed.types in
    unread_edited _ _ _ _ _ _ _ (readable_holds _ _ _ _ _ _ _ c.requires.types_value) _ _ _ _ whole _ unread.is

pub returns-in-Ok-clause-answer : goal.returns-in-Ok-clause-answer
returns-in-Ok-clause-answer c =
    let found = c.args.found.now in
    let parsed = c.read_again.ensures.parsed in
    let long = c.requires.binding_table_in_bounds in
    let whole = full_room_lem _ _ _ _ long.0 long.1.0 long.1.1.0 long.1.1.1 in
    let held = c.reflection.ensures in
    let read =
    held_of _ _ _ _ (read_into c.args.texts.chunk.now found.bindings.now found.buffers.now found.variables.now found.types.now) _
    (ap Ok held.header ∙ sym c.in-Ok.is ∙ parsed.answer) (held.bindings ∙ parsed.bindings) (held.buffers ∙ parsed.buffers)
    (held.variables ∙ parsed.variables) (held.types ∙ parsed.types) in
    c.same_reflection.ensures
    ∙ read_compared _ _ _ _ _ _ _ (readable_holds _ _ _ _ _ _ _ c.requires.types_value) _ _ _ _ whole c.read_again.ensures.bytes read
