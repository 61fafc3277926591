-- `place_variable` meets its contract: its name, its type and its default were placed in turn, and the offsets stored.
use Rattle.write_tables.proofs.OneVariable.{name_room, type_ready, default_room_lem, type_placed_after, variable_placed}
use Rattle.write_tables.proofs.Writers.{cursor_moved}
use Rattle.write_tables.proofs.variables.place_variable.Goals as goal

pub place_inner_name-name-requires-clause-scratch_bound : goal.place_inner_name-name-requires-clause-scratch_bound
place_inner_name-name-requires-clause-scratch_bound c = (name_room c.requires).0

pub place_inner_name-name-requires-clause-at_le_farthest_offset : goal.place_inner_name-name-requires-clause-at_le_farthest_offset
place_inner_name-name-requires-clause-at_le_farthest_offset c = (name_room c.requires).1

pub place_root_type-kind-requires-clause-type_ready : goal.place_root_type-kind-requires-clause-type_ready
place_root_type-kind-requires-clause-type_ready c =
    let named = c.place_inner_name-name.ensures in
    type_ready c.requires named.placed (cursor_moved named.same)

pub place_default-default-requires-clause-scratch_bound : goal.place_default-default-requires-clause-scratch_bound
place_default-default-requires-clause-scratch_bound c =
    let named = c.place_inner_name-name.ensures in
    (default_room_lem c.requires named.placed (type_placed_after named.same c.place_root_type-kind.ensures.placed)).0

pub place_default-default-requires-clause-at_le_farthest_offset : goal.place_default-default-requires-clause-at_le_farthest_offset
place_default-default-requires-clause-at_le_farthest_offset c =
    let named = c.place_inner_name-name.ensures in
    (default_room_lem c.requires named.placed (type_placed_after named.same c.place_root_type-kind.ensures.placed)).1

pub returns-clause-placed : goal.returns-clause-placed
returns-clause-placed c =
    let named = c.place_inner_name-name.ensures in
    let defaulted = c.place_default-default.ensures in
    variable_placed c.requires c.args.variables.now c.variable_at-fields.ensures named.placed
    (type_placed_after named.same c.place_root_type-kind.ensures.placed) defaulted.placed c.overwrite.ensures (cursor_moved defaulted.same)
