-- What an exported function leaves of an outcome in what it is lent, each kind one record, which the contracts cite whole: ₀ is what stood there before the
-- call, ₁ what stands there after it.
use Rattle.reflection.specs.Outcome.{Outcome}
use Rattle.std.specs.Prelude.{◌≡◌, List, ℕ, length as size}
use Rattle.reflection.specs.declared.Text.{Text}
use Rattle.reflection.specs.Reflection.{ResourceDef}
use Rattle.tables.specs.Tables.{binding_rows, buffer_rows, variable_rows, type_rows, table}
use Rattle.text_output.specs.Written.{output_of}
use Rattle.write_spec.specs.Payload.{Part}
use Rattle.payload.specs.Answer.{payload_output}
use Rattle.nontrefalcu.specs.Exports.{number_of, header_table, length_table}
use Rattle.nontrefalcu.specs.PayloadWords.{payload_table}

-- A text that is written: the number, the output and the length.
pub record TextLeft (outcome : Outcome (List ℕ)) (out₀ out₁ length₀ length₁ : List ℕ) (number : ℕ) : Type 0 where
  pub answer : number ≡ number_of outcome
  pub out : out₁ ≡ output_of outcome out₀
  pub length : length₁ ≡ length_table outcome (size length₀)

-- A chunk that is read: the number, the header's words and the four tables.
pub record ParseLeft (outcome : Outcome (ResourceDef Text Text)) (header₀ bindings₀ buffers₀ variables₀ types₀ : List ℕ)
    (header₁ bindings₁ buffers₁ variables₁ types₁ : List ℕ) (number : ℕ) : Type 0 where
  pub answer : number ≡ number_of outcome
  pub header : header₁ ≡ header_table outcome (size header₀)
  pub bindings : bindings₁ ≡ table binding_rows outcome (size bindings₀)
  pub buffers : buffers₁ ≡ table buffer_rows outcome (size buffers₀)
  pub variables : variables₁ ≡ table variable_rows outcome (size variables₀)
  pub types : types₁ ≡ table type_rows outcome (size types₀)

-- A payload: the number, the output, and whether the payload is the chunk or the output, with its length.
pub record PayloadLeft (chunk : List ℕ) (outcome : Outcome Part) (out₀ out₁ answer₀ answer₁ : List ℕ) (number : ℕ) : Type 0 where
  pub answered : number ≡ number_of outcome
  pub out : out₁ ≡ payload_output outcome out₀
  pub answer : answer₁ ≡ payload_table chunk outcome (size answer₀)
