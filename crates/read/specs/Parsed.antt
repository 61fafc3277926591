-- What `parse_rdef` answers, and what it leaves in the four lent tables, by the definition of reading.
use Rattle.reflection.specs.Outcome.{Outcome}
use Rattle.read.specs.Answer.{Parsed}
use Rattle.std.specs.Prelude.{◌≡◌, List, ℕ, length, Ok, Err}
use Rattle.reflection.specs.declared.Text.{Text}
use Rattle.reflection.specs.Reflection.{ResourceDef}
use Rattle.tables.specs.declared.lent.Tables.{Tables}
use Rattle.tables.specs.Tables.{binding_rows, buffer_rows, variable_rows, type_rows, table, header_of}
use Rattle.read_spec.specs.Step.{room_of}
use Rattle.read_spec.specs.Read.{read}

-- The answer's two cases: the header of what was read, or the refusal with document 01's number.
unfoldable pub parsed_of : Outcome (ResourceDef Text Text) → Parsed
parsed_of (Ok r) = Ok (header_of r)
parsed_of (Err e) = Err e

-- What a chunk reads as, where the four tables are as long as these.
unfoldable pub read_into : List ℕ → List ℕ → List ℕ → List ℕ → List ℕ → Outcome (ResourceDef Text Text)
read_into chunk bindings buffers variables types = read (room_of (length bindings) (length buffers) (length variables) (length types)) chunk

-- What `parse_rdef` leaves of an outcome: its answer, and in each table, as long as it was before (₀), the rows of that outcome and zeros after them.
pub record ParsedInto (outcome : Outcome (ResourceDef Text Text))
    (bindings₀ buffers₀ variables₀ types₀ : List ℕ) (bindings₁ buffers₁ variables₁ types₁ : List ℕ) (r : Parsed) : Type 0 where
  pub answer : r ≡ parsed_of outcome
  pub bindings : bindings₁ ≡ table binding_rows outcome (length bindings₀)
  pub buffers : buffers₁ ≡ table buffer_rows outcome (length buffers₀)
  pub variables : variables₁ ≡ table variable_rows outcome (length variables₀)
  pub types : types₁ ≡ table type_rows outcome (length types₀)

-- The same of four tables that are lent together.
abbrev pub read_in : List ℕ → Tables → Outcome (ResourceDef Text Text)
read_in chunk t = read_into chunk t.bindings.now t.buffers.now t.variables.now t.types.now

abbrev pub TablesParsed : Outcome (ResourceDef Text Text) → Tables → Tables → Parsed → Type 0
TablesParsed outcome before after r =
    ParsedInto outcome before.bindings.now before.buffers.now before.variables.now before.types.now
    after.bindings.now after.buffers.now after.variables.now after.types.now r
