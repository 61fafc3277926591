-- VariableClass is D3D_SHADER_VARIABLE_CLASS, row for row, and its numbers are those up to 7: computed over the table, once for each.
use mathlib.Core.List.{List, [], ◌∷◌}
use mathlib.Core.Path.{◌≡◌, refl, ap, ◌∙◌}
use Prim.Native.Nat.{ℕ}
use lib.Dec.{leb}
use Rattle.std.specs.Prelude.{Result, Some}
use Rattle.codes.specs.Table.{lookup, known, is_row}
use Rattle.codes.specs.Microsoft.{variable_classes}
use Rattle.codes.specs.Variable.{class_row, class_answer}
use Rattle.codes.specs.declared.variable.VariableClass.{VariableClass}
use Rattle.codes.specs.declared.variable.VariableClass.TheVariants.{Scalar, Vector, MatrixRows, MatrixColumns, Object, Struct, InterfaceClass}
use Rattle.codes.specs.declared.variable.VariableClass.TheVariants.{InterfacePointer}
use Rattle.codes.specs.declared.unknown.UnknownCode.{UnknownCode}
use Rattle.codes.proofs.Lookup.{known_up_to}
use Rattle.codes.proofs.BothWays.{Rows, BothWays, case_at, both_ways}

abbrev pub cases : List VariableClass
cases =
    Scalar
    ∷ Vector
    ∷ MatrixRows
    ∷ MatrixColumns
    ∷ Object
    ∷ Struct
    ∷ InterfaceClass
    ∷ InterfacePointer
    ∷ []

found : (x : VariableClass) → case_at class_row cases (class_row x).1 ≡ Some x
unfolding case_at
found Scalar = refl
found Vector = refl
found MatrixRows = refl
found MatrixColumns = refl
found Object = refl
found Struct = refl
found InterfaceClass = refl
found InterfacePointer = refl

pub class_rows : Rows variable_classes class_row cases
unfolding variable_classes
class_rows = record { table_is_rows = refl; found = found }

pub class_both_ways : BothWays variable_classes class_row class_answer
class_both_ways = both_ways class_rows

-- The numbers that the table has are those up to 7.
pub class_known : (n : ℕ) → known variable_classes n ≡ leb n 7
unfolding variable_classes
class_known = known_up_to variable_classes 7 tt refl

-- The answer of try_from is a row exactly for those.
pub class_accepted : (n : ℕ) (r : Result VariableClass UnknownCode) → class_answer r ≡ lookup variable_classes n → is_row (class_answer r) ≡ leb n 7
unfolding known
class_accepted n r e = ap is_row e ∙ class_known n
