-- Vocabulary of internal contracts: no contract of an exported function and no demand cites it.
-- What `read_tables` leaves: the answer, and in each table the records, whatever follows them.
use Rattle.reflection.specs.Outcome.{Outcome}
use Rattle.read.specs.Answer.{Parsed}
use Rattle.std.specs.Prelude.{◌≡◌, List, ℕ, ◌*◌, ◌/◌, min, length, take, Ok, Err}
use Rattle.reflection.specs.Limits.{binding_room, buffer_room, variable_room, type_room, binding_width, buffer_width, variable_width, type_width}
use Rattle.reflection.specs.declared.Text.{Text}
use Rattle.reflection.specs.Reflection.{ResourceDef}
use Rattle.tables.specs.declared.lent.Tables.{Tables}
use Rattle.tables.specs.Tables.{binding_rows, buffer_rows, variable_rows, type_rows}
use Rattle.read_spec.specs.declared.Counts.{Counts}
use Rattle.read.specs.Parsed.{parsed_of}

-- The capacity is the room of the tables b, f, v and t.
pub record IsRoom (b f v t : List ℕ) (capacity : Counts) : Type 0 where
  pub bindings : capacity.bindings ≡ min (length b / binding_width) binding_room
  pub buffers : capacity.buffers ≡ min (length f / buffer_width) buffer_room
  pub variables : capacity.variables ≡ min (length v / variable_width) variable_room
  pub types : capacity.types ≡ min (length t / type_width) type_room

-- The rows of what was read; none where it was refused.
abbrev pub rows_of : (ResourceDef Text Text → List ℕ) → Outcome (ResourceDef Text Text) → List ℕ → List ℕ
rows_of rows (Ok r) old = rows r
rows_of rows (Err e) old = old

abbrev pub RowsHeld : Parsed → Outcome (ResourceDef Text Text) → List ℕ → List ℕ → List ℕ → List ℕ → Type 0
RowsHeld (Ok h) out bindings buffers variables types =
    (take (h.binding_count * binding_width) bindings ≡ rows_of binding_rows out bindings)
    × ((take (h.buffer_count * buffer_width) buffers ≡ rows_of buffer_rows out buffers)
    × ((take (h.variable_count * variable_width) variables ≡ rows_of variable_rows out variables)
    × (take (h.type_count * type_width) types ≡ rows_of type_rows out types)))
RowsHeld (Err e) out bindings buffers variables types = Unit

pub record Filled (out : Outcome (ResourceDef Text Text)) (bindings buffers variables types : List ℕ) (r : Parsed) : Type 0 where
  pub answer : r ≡ parsed_of out
  pub rows : RowsHeld r out bindings buffers variables types

-- The tables are as long as they were.
pub record SameLengths (before after : Tables) : Type 0 where
  pub bindings : length after.bindings.now ≡ length before.bindings.now
  pub buffers : length after.buffers.now ≡ length before.buffers.now
  pub variables : length after.variables.now ≡ length before.variables.now
  pub types : length after.types.now ≡ length before.types.now
