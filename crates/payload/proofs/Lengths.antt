-- The tables that a chunk is read into are as long after as before: what is read keeps to the room, so its rows fit.
use Rattle.reflection.specs.Outcome.{Outcome}
use Rattle.std.specs.Prelude.{Ok, Err}
use mathlib.Core.Path.{◌≡◌, refl, ap, ◌∙◌}
use mathlib.Core.List.{List, [], ◌∷◌}
use Prim.Native.Nat.{ℕ, ◌-◌, ◌≤◌, ◌<◌}
use native.Mathlib.Omega.{arith}
use lib.ListN.{length, get_or, replicate, length-append, length-replicate}
use Rattle.reflection.specs.declared.Text.{Text}
use Rattle.reflection.specs.Reflection.{TypeDesc, type_desc, CBufferVariable, ResourceDef, all_variables}
use Rattle.reflection.specs.Texts.{in_chunk}
use Rattle.reflection.specs.Contents.{Bytes}
use Rattle.tables.specs.Nodes.{nodes_of}
use Rattle.tables.specs.Records.{binding_words_in_table, buffer_words_in_table, variable_words_in_table, type_words_in_table}
use Rattle.tables.specs.Records.{binding_width, buffer_width, variable_width, type_width}
use Rattle.tables.specs.Tables.{binding_record, buffer_record, variable_record, type_record, all_nodes, table}
use Rattle.tables.specs.Tables.{binding_rows, buffer_rows, variable_rows, type_rows}
use Rattle.tables.specs.declared.lent.Tables.{Tables}
use Rattle.read_spec.specs.Step.{Room, room_of}
use Rattle.read_spec.specs.Read.{read_chunk, read}
use Rattle.readable.specs.Readable.{node_count}
use Rattle.readable.proofs.Leaves.{value_left}
use Rattle.readable.proofs.ReadTables.{DefRead, chunk_read}
use Rattle.read.specs.Answer.{Parsed}
use Rattle.read.specs.Parsed.{read_into, read_in, TablesParsed}
use Rattle.read.proofs.Rows.{rows_length, binding_width_lem, buffer_width_lem, variable_width_lem, type_width_lem}
use Rattle.payload.specs.Lengths.{TablesAsLong}

-- Rows that fit make a table no longer.
table_kept : (rows : ResourceDef Text Text → List ℕ) (n : ℕ) (o : Outcome (ResourceDef Text Text))
    → ((d : ResourceDef Text Text) → o ≡ Ok d → length (rows d) ≤ n) → length (table rows o n) ≡ n
unfolding table
table_kept rows n (Ok d) fit =
    omega (arith, fit d refl, length-append (rows d) (replicate (n - length (rows d)) 0), length-replicate {A = ℕ} (n - length (rows d)) 0)
table_kept rows n (Err e) fit = length-replicate n 0

-- A type has as many nodes whatever its member's name is.
nodes_named : (t : TypeDesc Text) (n m : Text) → length (nodes_of n 0 t) ≡ length (nodes_of m 0 t)
unfolding nodes_of
nodes_named (type_desc k name ms) n m = refl

nodes_counted : (vs : List (CBufferVariable Text Text)) → length (all_nodes vs) ≡ node_count vs
unfolding all_nodes node_count
nodes_counted [] = refl
nodes_counted (v ∷ vs) =
    omega (arith, length-append (nodes_of (in_chunk 0 0) 0 v.var_type) (all_nodes vs), nodes_named v.var_type (in_chunk 0 0) v.name, nodes_counted vs)

module _ (chunk : Bytes) (bytes : (i : ℕ) → get_or chunk i 0 < 256) (b f v t : List ℕ) where
  abbrev lent_room : Room
  lent_room = room_of (length b) (length f) (length v) (length t)

  -- What was read keeps to the room of the tables.
  was_read : (d : ResourceDef Text Text) → read_into chunk b f v t ≡ Ok d → (r : Room) × DefRead chunk [] d lent_room r
  unfolding read_into read
  was_read d is = value_left (λ y r. DefRead chunk [] y lent_room r) (read_chunk chunk lent_room) d (chunk_read chunk [] bytes lent_room) is

  module _ (d : ResourceDef Text Text) (is : read_into chunk b f v t ≡ Ok d) where
    bindings_fit : length (binding_rows d) ≤ length b
    unfolding room_of binding_rows
    bindings_fit =
        omega (arith, (was_read d is).1.spent.bindings, rows_length binding_words_in_table binding_record binding_width binding_width_lem d.bindings)

    buffers_fit : length (buffer_rows d) ≤ length f
    unfolding room_of buffer_rows
    buffers_fit =
        omega (arith, (was_read d is).1.spent.buffers, rows_length buffer_words_in_table buffer_record buffer_width buffer_width_lem d.constant_buffers)

    variables_fit : length (variable_rows d) ≤ length v
    unfolding room_of variable_rows
    variables_fit =
        omega (
          arith,
          (was_read d is).1.spent.variables,
          rows_length variable_words_in_table variable_record variable_width variable_width_lem (all_variables d.constant_buffers),
        )

    types_fit : length (type_rows d) ≤ length t
    unfolding room_of type_rows
    types_fit =
        omega (
          arith,
          (was_read d is).1.spent.types,
          nodes_counted (all_variables d.constant_buffers),
          rows_length type_words_in_table type_record type_width type_width_lem (all_nodes (all_variables d.constant_buffers)),
        )

pub tables_kept : (chunk : Bytes) (bytes : (i : ℕ) → get_or chunk i 0 < 256) {before after : Tables} {r : Parsed}
    → TablesParsed (read_in chunk before) before after r → TablesAsLong before after
tables_kept chunk bytes {before} parsed =
    let b = before.bindings.now in
    let f = before.buffers.now in
    let v = before.variables.now in
    let t = before.types.now in
    record {
      bindings = ap length parsed.bindings ∙ table_kept binding_rows (length b) (read_into chunk b f v t) (bindings_fit chunk bytes b f v t);
      buffers = ap length parsed.buffers ∙ table_kept buffer_rows (length f) (read_into chunk b f v t) (buffers_fit chunk bytes b f v t);
      variables = ap length parsed.variables ∙ table_kept variable_rows (length v) (read_into chunk b f v t) (variables_fit chunk bytes b f v t);
      types = ap length parsed.types ∙ table_kept type_rows (length t) (read_into chunk b f v t) (types_fit chunk bytes b f v t);
    }
