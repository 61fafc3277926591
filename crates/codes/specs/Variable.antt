-- Which enumerator and row of D3D_SHADER_VARIABLE_CLASS each case of VariableClass is, which of D3D_SHADER_VARIABLE_TYPE each case of BaseType is, and
-- which row an answer names.
use Rattle.std.specs.Prelude.{[], ◌∷◌, map, ℕ, Result, Option}
use Rattle.codes.specs.Table.{Table, row_of}
use Rattle.codes.specs.Microsoft.{D3D_SHADER_VARIABLE_CLASS, D3D_SVC_SCALAR, D3D_SVC_VECTOR, D3D_SVC_MATRIX_ROWS}
use Rattle.codes.specs.Microsoft.{D3D_SVC_MATRIX_COLUMNS, D3D_SVC_OBJECT, D3D_SVC_STRUCT, D3D_SVC_INTERFACE_CLASS}
use Rattle.codes.specs.Microsoft.{D3D_SVC_INTERFACE_POINTER, variable_class_number}
use Rattle.codes.specs.Microsoft.{D3D_SHADER_VARIABLE_TYPE, D3D_SVT_BOOL, D3D_SVT_INT, D3D_SVT_FLOAT, D3D_SVT_UINT, D3D_SVT_DOUBLE}
use Rattle.codes.specs.Microsoft.{variable_type_number}
use Rattle.codes.specs.declared.variable.VariableClass.{VariableClass}
use Rattle.codes.specs.declared.variable.VariableClass.TheVariants.{Scalar, Vector, MatrixRows, MatrixColumns, Object, Struct, InterfaceClass}
use Rattle.codes.specs.declared.variable.VariableClass.TheVariants.{InterfacePointer}
use Rattle.codes.specs.declared.variable.BaseType.{BaseType}
use Rattle.codes.specs.declared.variable.BaseType.TheVariants.{Bool, Int, Float, Uint, Double}
use Rattle.codes.specs.declared.unknown.UnknownCode.{UnknownCode}

abbrev pub class_enumerator : VariableClass → D3D_SHADER_VARIABLE_CLASS
class_enumerator Scalar = D3D_SVC_SCALAR
class_enumerator Vector = D3D_SVC_VECTOR
class_enumerator MatrixRows = D3D_SVC_MATRIX_ROWS
class_enumerator MatrixColumns = D3D_SVC_MATRIX_COLUMNS
class_enumerator Object = D3D_SVC_OBJECT
class_enumerator Struct = D3D_SVC_STRUCT
class_enumerator InterfaceClass = D3D_SVC_INTERFACE_CLASS
class_enumerator InterfacePointer = D3D_SVC_INTERFACE_POINTER

abbrev pub class_row : VariableClass → D3D_SHADER_VARIABLE_CLASS × ℕ
class_row class = (class_enumerator class, variable_class_number (class_enumerator class))

abbrev pub class_answer : Result VariableClass UnknownCode → Option (D3D_SHADER_VARIABLE_CLASS × ℕ)
class_answer = row_of class_row

-- The variable types that HLSL spells by a word (document 01, "Spelling and listing").
abbrev pub base_type_enumerator : BaseType → D3D_SHADER_VARIABLE_TYPE
base_type_enumerator Bool = D3D_SVT_BOOL
base_type_enumerator Int = D3D_SVT_INT
base_type_enumerator Float = D3D_SVT_FLOAT
base_type_enumerator Uint = D3D_SVT_UINT
base_type_enumerator Double = D3D_SVT_DOUBLE

abbrev pub base_type_row : BaseType → D3D_SHADER_VARIABLE_TYPE × ℕ
base_type_row base = (base_type_enumerator base, variable_type_number (base_type_enumerator base))

-- Their rows. Crate spelling proves that these are the types to which it gives a name, and no others.
unfoldable pub base_types : Table D3D_SHADER_VARIABLE_TYPE
base_types = map base_type_row (Bool ∷ Int ∷ Float ∷ Uint ∷ Double ∷ [])

abbrev pub base_type_answer : Result BaseType UnknownCode → Option (D3D_SHADER_VARIABLE_TYPE × ℕ)
base_type_answer = row_of base_type_row
