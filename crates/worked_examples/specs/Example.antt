-- A worked example: what one of the definitions is asked, and what it gives by document 01, "Refusals" and "Edge chunks". One type for all of them, so
-- that one statement covers the table.
use Rattle.reflection.specs.Outcome.{Outcome}
use Rattle.spelling_parse.specs.declared.TypeSpelling.{TypeSpelling}
use Rattle.std.specs.Prelude.{◌≡◌, List, map, ℕ, length, Option, Some, option_map, Result, Ok, Err}
use Rattle.codes.specs.Table.{lookup}
use Rattle.codes.specs.Microsoft.{D3D_SHADER_INPUT_TYPE, D3D_SRV_DIMENSION, D3D_SHADER_VARIABLE_CLASS, D3D_SHADER_VARIABLE_TYPE}
use Rattle.codes.specs.Microsoft.{input_types, srv_dimensions, variable_classes}
use Rattle.codes.specs.InputType.{input_type_row as row_of_input_type}
use Rattle.codes.specs.Dimension.{dimension_row as row_of_dimension}
use Rattle.codes.specs.Variable.{class_row as row_of_class, base_types, base_type_row as row_of_base_type}
use Rattle.codes.specs.declared.input_type.ResourceInputType.{ResourceInputType}
use Rattle.codes.specs.declared.dimension.ResourceDimension.{ResourceDimension}
use Rattle.codes.specs.declared.variable.VariableClass.{VariableClass}
use Rattle.codes.specs.declared.variable.BaseType.{BaseType}
use Rattle.reflection.specs.Refusals.{refusal_number}
use Rattle.reflection.specs.declared.Text.{Text}
use Rattle.reflection.specs.declared.TypeDesc.{TypeDesc}
use Rattle.reflection.specs.declared.ResourceBinding.{ResourceBinding}
use Rattle.reflection.specs.Reflection.{ResourceDef}
use Rattle.reflection.specs.Contents.{Bytes}
use Rattle.read_spec.specs.Step.{Room}
use Rattle.read_spec.specs.Read.{read}
use Rattle.text_output.specs.Written.{fitting}
use Rattle.write_spec.specs.Outcome.{write}
use Rattle.write_spec.specs.Payload.{Part, handed_back, payload}
use Rattle.spelling.specs.Spelling.{type_name, declaration}
use Rattle.spelling_parse.specs.Grammar.{parse_type, spelled_type}
use Rattle.listing.specs.Listing.{listed}

-- What is right: a value, or the number of a refusal by document 01's table.
abbrev pub Numbered : Type 0 → Type 0
Numbered A = Result A ℕ

abbrev pub numbered : {A : Type 0} → Outcome A → Numbered A
numbered (Ok x) = Ok x
numbered (Err e) = Err (refusal_number e)

-- What is asked, and last what is right. Where names are printed, the chunk and the text of edits that hold them come first.
pub data Example : Type 0 where
  -- in this room a chunk reads as this reflection, or is refused
  reads : Room → Bytes → Numbered (ResourceDef Text Text) → Example
  -- with so many words of scratch and bytes of output a reflection is written as these bytes, so many, or refused
  writes : ℕ → ℕ → ResourceDef Bytes Bytes → Numbered Bytes → ℕ → Example
  -- with so many bytes of output, the payload of a reflection that was read from a chunk is this part, of so many bytes
  hands_back : ℕ → Bytes → ResourceDef Bytes Bytes → Numbered Part → ℕ → Example
  -- a type is spelled as these bytes, or refused; the same into so many bytes of output
  spells : Bytes → Bytes → TypeDesc → Numbered Bytes → Example
  spells_into : ℕ → Bytes → Bytes → TypeDesc → Numbered Bytes → Example
  -- a variable of a type, with a name, is declared by this line, or refused
  declares : Bytes → Bytes → TypeDesc → Text → Numbered Bytes → Example
  -- a text is understood as this type, or not
  parses : Bytes → Numbered TypeSpelling → Example
  -- a binding is listed as this line, or refused
  lists : Bytes → Bytes → ResourceBinding → Numbered Bytes → Example
  -- a number is this code of the port, or none
  input_type : ℕ → Option ResourceInputType → Example
  dimension : ℕ → Option ResourceDimension → Example
  variable_class : ℕ → Option VariableClass → Example
  base_type : ℕ → Option BaseType → Example

-- An answer of any of the definitions. Codes are answered by rows of Microsoft's tables.
pub data Answer : Type 0 where
  reflection : Numbered (ResourceDef Text Text) → Answer
  written : Numbered Bytes → ℕ → Answer
  part : Numbered Part → ℕ → Answer
  text : Numbered Bytes → Answer
  type : Numbered TypeSpelling → Answer
  input_type_row : Option (D3D_SHADER_INPUT_TYPE × ℕ) → Answer
  dimension_row : Option (D3D_SRV_DIMENSION × ℕ) → Answer
  class_row : Option (D3D_SHADER_VARIABLE_CLASS × ℕ) → Answer
  base_type_row : Option (D3D_SHADER_VARIABLE_TYPE × ℕ) → Answer

-- How many bytes were written, or are handed back; 0 with a refusal.
abbrev pub bytes_written : Outcome Bytes → ℕ
bytes_written (Ok bytes) = length bytes
bytes_written (Err e) = 0

abbrev pub bytes_handed_back : Bytes → Outcome Part → ℕ
bytes_handed_back chunk (Ok p) = length (handed_back chunk p)
bytes_handed_back chunk (Err e) = 0

-- What the definition gives.
unfoldable pub given : Example → Answer
given (reads room chunk r) = reflection (numbered (read room chunk))
given (writes scratch output r bytes n) = written (numbered (write scratch output (Some r))) (bytes_written (write scratch output (Some r)))
given (hands_back output chunk r p n) = part (numbered (payload output chunk (Some r))) (bytes_handed_back chunk (payload output chunk (Some r)))
given (spells chunk edits t bytes) = text (numbered (type_name chunk edits t))
given (spells_into output chunk edits t bytes) = text (numbered (fitting output (type_name chunk edits t)))
given (declares chunk edits t name bytes) = text (numbered (declaration chunk edits t name))
given (parses bytes t) = type (numbered (spelled_type (parse_type bytes)))
given (lists chunk edits b line) = text (numbered (listed chunk edits b))
given (input_type n code) = input_type_row (lookup input_types n)
given (dimension n code) = dimension_row (lookup srv_dimensions n)
given (variable_class n code) = class_row (lookup variable_classes n)
given (base_type n code) = base_type_row (lookup base_types n)

-- What is right.
unfoldable pub expected : Example → Answer
expected (reads room chunk r) = reflection r
expected (writes scratch output r bytes n) = written bytes n
expected (hands_back output chunk r p n) = part p n
expected (spells chunk edits t bytes) = text bytes
expected (spells_into output chunk edits t bytes) = text bytes
expected (declares chunk edits t name bytes) = text bytes
expected (parses bytes t) = type t
expected (lists chunk edits b line) = text line
expected (input_type n code) = input_type_row (option_map row_of_input_type code)
expected (dimension n code) = dimension_row (option_map row_of_dimension code)
expected (variable_class n code) = class_row (option_map row_of_class code)
expected (base_type n code) = base_type_row (option_map row_of_base_type code)

-- The one statement of a table: for each of its examples the definition gives what is right.
abbrev pub AllHold : List Example → Type 0
AllHold table = map given table ≡ map expected table

-- A refusal by its number.
abbrev pub refusal : {A : Type 0} → ℕ → Numbered A
refusal n = Err n
