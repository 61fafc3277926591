-- What a type's placing begins with says of its node, and what is used where the type is not written.
use mathlib.Core.Path.{◌≡◌}
use mathlib.Core.List.{List}
use Prim.Native.Nat.{ℕ, ◌+◌, ◌*◌, ◌≤◌, ◌<◌}
use native.Mathlib.Omega.{arith}
use Rattle.reflection.specs.Limits.{type_room}
use Rattle.write_pool.specs.Pool.{entry_count}
use Rattle.write_texts.specs.Cursor.{WriteCursor}
use Rattle.write_texts.specs.Scratch.{shared_width, member_types_start, records_start, inner_pool}
use Rattle.write_texts.specs.PlacedInScratch.{inner_room}
use Rattle.write_texts.specs.PlacedInPool.{farthest_offset}
use Rattle.tables.specs.Trees.{tree_at}
use Rattle.tables.proofs.Trees.{tree_up}
use Rattle.write_types.specs.Room.{spare_bytes, TypeReady}
use Rattle.write_types.specs.TypePlaced.{Advanced}

-- The cursor with another place in the output, another node, or another count of types of members.
abbrev pub with_at : WriteCursor → ℕ → WriteCursor
with_at cursor at = record { at = at; node = cursor.node; member_types = cursor.member_types; root_types = cursor.root_types }

abbrev pub with_node_lem : WriteCursor → ℕ → WriteCursor
with_node_lem cursor node = record { at = cursor.at; node = node; member_types = cursor.member_types; root_types = cursor.root_types }

abbrev pub with_members : WriteCursor → ℕ → WriteCursor
with_members cursor count = record { at = cursor.at; node = cursor.node; member_types = count; root_types = cursor.root_types }

module _ {chunk edits types : List ℕ} {levels base records-top : ℕ} {cursor : WriteCursor} {s : List ℕ}
    (start : TypeReady chunk edits types levels base records-top cursor s) where
  pub node_early : cursor.node < type_room
  node_early = omega (arith, start.within, tree_up types levels cursor.node)

  -- There is room for a name, and for an entry more among the types of members.
  pub name_room : (entry_count (inner_pool s) < inner_room) × (cursor.at ≤ farthest_offset)
  name_room = omega (arith, start.room.names, start.room.cursor, node_early)

  pub entry_room : member_types_start + (base + cursor.member_types) * shared_width + shared_width ≤ records_start
  entry_room = omega (arith, start.room.stacked, node_early)

  -- The types of its own members begin after those that lie on the stack.
  pub down_ready : TypeReady chunk edits types levels (base + cursor.member_types) records-top (with_members cursor 0) s
  down_ready = record {
    ready = start.ready;
    room = record {
      cursor = start.room.cursor;
      names = start.room.names;
      stacked = omega (arith, start.room.stacked);
      records_low = start.room.records_low;
      records_high = start.room.records_high;
    };
    within = start.within;
  }

  -- Nothing was written, and the writer stands after the type's nodes.
  pub stays : {next entries-left : ℕ} → next ≡ (tree_at types levels cursor.node).next → entries-left ≤ 1
      → Advanced chunk edits cursor (with_node_lem cursor next) entries-left 1 spare_bytes s s
  stays is-next few = record {
    ready = start.ready;
    more = omega arith;
    stacked = omega (arith, few, is-next, tree_up types levels cursor.node);
    names = omega (arith, is-next, tree_up types levels cursor.node);
    near = omega (arith, is-next, tree_up types levels cursor.node);
  }
