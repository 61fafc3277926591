-- The spelling of a type, and the declaration line of a variable: document 01, "Spelling and listing" (`hlsl_type_name` in the Rust).
use Rattle.reflection.specs.Outcome.{Outcome}
use Rattle.reflection.specs.declared.refusal.Refusal.TheVariants.{NotReadable, NoSpelling}
use Rattle.std.specs.Prelude.{Bool, true, false, ◌&&◌, ◌||◌, cond, List, [], ◌∷◌, ◌++◌, ℕ, eqb, ltb, Option, None, Some, Ok, Err}
use Rattle.codes.specs.Table.{lookup}
use Rattle.codes.specs.Microsoft.{D3D_SHADER_VARIABLE_CLASS, D3D_SVC_SCALAR, D3D_SVC_VECTOR, D3D_SVC_MATRIX_ROWS, D3D_SVC_MATRIX_COLUMNS}
use Rattle.codes.specs.Microsoft.{D3D_SVC_OBJECT, D3D_SVC_STRUCT, D3D_SVC_INTERFACE_CLASS, D3D_SVC_INTERFACE_POINTER, variable_class_number}
use Rattle.codes.specs.Microsoft.{variable_classes}
use Rattle.reflection.specs.declared.Text.{Text}
use Rattle.reflection.specs.declared.TypeDesc.{TypeDesc}
use Rattle.reflection.specs.Limits.{u16_limit}
use Rattle.reflection.specs.Texts.{text_bytes}
use Rattle.tables.specs.Nodes.{◌>>=◌}
use Rattle.text_output.specs.Digits.{decimal}
use Rattle.text_output.specs.Printable.{printable}
use Rattle.spelling.specs.Names.{base_name}

-- What follows the base: nothing for a scalar, the columns for a vector, rows, `x` and columns for a matrix. Other classes have no such spelling.
abbrev pub class_dimensions : D3D_SHADER_VARIABLE_CLASS → ℕ → ℕ → Option (List ℕ)
class_dimensions D3D_SVC_SCALAR rows columns = Some []
class_dimensions D3D_SVC_VECTOR rows columns = Some (decimal columns)
class_dimensions D3D_SVC_MATRIX_ROWS rows columns = Some (decimal rows ++ (120 ∷ decimal columns))
class_dimensions D3D_SVC_MATRIX_COLUMNS rows columns = Some (decimal rows ++ (120 ∷ decimal columns))
class_dimensions D3D_SVC_OBJECT rows columns = None
class_dimensions D3D_SVC_STRUCT rows columns = None
class_dimensions D3D_SVC_INTERFACE_CLASS rows columns = None
class_dimensions D3D_SVC_INTERFACE_POINTER rows columns = None

unfoldable pub dimensions : ℕ → ℕ → ℕ → Option (List ℕ)
dimensions class rows columns = do
  row ← lookup variable_classes class
  class_dimensions row.0 rows columns

-- `[N]` where there are elements.
unfoldable pub array_suffix : ℕ → List ℕ
array_suffix elements = cond (eqb elements 0) [] (91 ∷ (decimal elements ++ (93 ∷ [])))

-- A scalar, vector or matrix by its numbers.
unfoldable pub numeric_name : TypeDesc → Option (List ℕ)
numeric_name t = do
  base ← base_name t.var_type
  dims ← dimensions t.class t.rows t.columns
  Some (base ++ (dims ++ array_suffix t.elements))

-- The type's own name, unless it is empty.
abbrev pub own_name : List ℕ → Option (List ℕ)
own_name [] = None
own_name (b ∷ bs) = Some (b ∷ bs)

-- Whether a type goes by its own name: it has members, or is a struct.
unfoldable pub by_name : TypeDesc → Bool
by_name t = ltb 0 t.member_count || eqb t.class (variable_class_number D3D_SVC_STRUCT)

-- Such a type has its own name and no array suffix; any other goes by its numbers.
unfoldable pub type_spelling : List ℕ → TypeDesc → Option (List ℕ)
type_spelling name t = cond (by_name t) (own_name name) (numeric_name t)

-- Whether there is a spelling, and its bytes.
abbrev pub is_spelled : Option (List ℕ) → Bool
is_spelled None = false
is_spelled (Some bytes) = true

abbrev pub bytes_of : Option (List ℕ) → List ℕ
bytes_of None = []
bytes_of (Some bytes) = bytes

-- The fields of 16 bits are.
unfoldable pub fields_fit : TypeDesc → Bool
fields_fit t =
    ltb t.class u16_limit && (ltb t.var_type u16_limit && (ltb t.rows u16_limit
    && (ltb t.columns u16_limit && (ltb t.elements u16_limit && ltb t.member_count u16_limit))))

-- The spelling, or a refusal where there is none.
abbrev pub spelled_or_refused : Option (List ℕ) → Outcome (List ℕ)
spelled_or_refused (Some bytes) = Ok bytes
spelled_or_refused None = Err NoSpelling

-- `hlsl_type_name`: 16 before 18. (17, for an output that is too small, comes last: `fitting` of crate text_output.)
unfoldable pub type_name : List ℕ → List ℕ → TypeDesc → Outcome (List ℕ)
type_name chunk edits t =
    cond (printable chunk edits t.name && fields_fit t) (spelled_or_refused (type_spelling (text_bytes chunk edits t.name) t)) (Err NotReadable)

-- A spelling, a space, a name, a semicolon.
abbrev pub declared : List ℕ → Option (List ℕ) → Option (List ℕ)
declared name None = None
declared name (Some type) = Some (type ++ (32 ∷ (name ++ (59 ∷ []))))

-- The declaration line of a variable of type t: both names are tested before 18.
unfoldable pub declaration : List ℕ → List ℕ → TypeDesc → Text → Outcome (List ℕ)
declaration chunk edits t name =
    cond (printable chunk edits t.name && (fields_fit t && printable chunk edits name))
    (spelled_or_refused (declared (text_bytes chunk edits name) (type_spelling (text_bytes chunk edits t.name) t)))
    (Err NotReadable)
