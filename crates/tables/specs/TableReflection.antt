-- Vocabulary of internal contracts: no contract of an exported function and no demand cites it.
-- The reflection that a header and its tables hold, read off them record by record; total, with no test of the counts. Where decoding gives a reflection it is
-- this one (proofs/Decoded.antt), so the code that walks the tables needs no premise on them beyond their sizes.
use Rattle.std.specs.Prelude.{List, map, ℕ, zero, suc, ◌+◌, ◌≤◌}
use Rattle.reflection.specs.declared.Text.{Text}
use Rattle.reflection.specs.declared.ResourceDef.{ResourceDef as Header}
use Rattle.reflection.specs.Reflection.{CBufferVariable, CBufferDef, ResourceDef}
use Rattle.tables.specs.Nodes.{type_levels}
use Rattle.tables.specs.Records.{binding_at, buffer_at, variable_at}
use Rattle.tables.specs.Decode.{records_from, binding_from_table, variable_from_table, buffer_from_table}
use Rattle.reflection.specs.Rd11.{rd11_from_header}
use Rattle.reflection.specs.Limits.{binding_room, buffer_room, variable_room, type_room}
use Rattle.tables.specs.Trees.{tree_at, type_tree}

-- The node at which the type of variable j begins: after the nodes of the variables before it.
unfoldable pub root_at : List ℕ → ℕ → ℕ
root_at types zero = 0
root_at types (suc j) = (tree_at types type_levels (root_at types j)).next

-- Variable j, with its type.
unfoldable pub variable_in_table : List ℕ → List ℕ → ℕ → CBufferVariable Text Text
variable_in_table variables types j = variable_from_table (variable_at variables j) (type_tree types type_levels (root_at types j))

-- How many variables buffer i counts, and how many the buffers before it count.
unfoldable pub count_at : List ℕ → ℕ → ℕ
count_at buffers i = (buffer_at buffers i).variable_count

unfoldable pub first_variable : List ℕ → ℕ → ℕ
first_variable buffers zero = 0
first_variable buffers (suc i) = first_variable buffers i + count_at buffers i

-- Buffer i, with its variables.
unfoldable pub buffer_in_table : List ℕ → List ℕ → List ℕ → ℕ → CBufferDef Text Text
buffer_in_table buffers variables types i =
    buffer_from_table (buffer_at buffers i) (records_from (variable_in_table variables types) (first_variable buffers i) (count_at buffers i))

unfoldable pub reflection_in_tables : Header → List ℕ → List ℕ → List ℕ → List ℕ → ResourceDef Text Text
reflection_in_tables h bindings buffers variables types = record {
  target_version = h.target_version;
  compile_flags = h.compile_flags;
  rd11 = rd11_from_header h;
  creator = h.creator;
  bindings = map binding_from_table (records_from (binding_at bindings) 0 h.binding_count);
  constant_buffers = records_from (buffer_in_table buffers variables types) 0 h.buffer_count;
}

-- The records are no more than document 01's room.
pub record Sized (h : Header) (buffers types : List ℕ) : Type 0 where
  pub few_bindings : h.binding_count ≤ binding_room
  pub few_buffers : h.buffer_count ≤ buffer_room
  pub few_variables : first_variable buffers h.buffer_count ≤ variable_room
  pub few_nodes : root_at types (first_variable buffers h.buffer_count) ≤ type_room
