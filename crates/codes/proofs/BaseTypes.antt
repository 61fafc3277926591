-- BaseType is five rows of D3D_SHADER_VARIABLE_TYPE, and its numbers are 1, 2, 3, 19 and 39: computed over the rows, once for each.
use mathlib.Core.List.{List, [], ◌∷◌}
use mathlib.Core.Path.{◌≡◌, refl, ap, ◌∙◌}
use Prim.Native.Nat.{ℕ}
use Rattle.std.specs.Prelude.{Result, Some}
use Rattle.codes.specs.Table.{lookup, known, is_row}
use Rattle.codes.specs.Variable.{base_types, base_type_row, base_type_answer}
use Rattle.codes.specs.declared.variable.BaseType.{BaseType}
use Rattle.codes.specs.declared.variable.BaseType.TheVariants.{Bool, Int, Float, Uint, Double}
use Rattle.codes.specs.declared.unknown.UnknownCode.{UnknownCode}
use Rattle.codes.proofs.Lookup.{one_of, known_one_of}
use Rattle.codes.proofs.BothWays.{Rows, BothWays, case_at, both_ways}

abbrev pub cases : List BaseType
cases =
    Bool
    ∷ Int
    ∷ Float
    ∷ Uint
    ∷ Double
    ∷ []

found : (x : BaseType) → case_at base_type_row cases (base_type_row x).1 ≡ Some x
unfolding case_at
found Bool = refl
found Int = refl
found Float = refl
found Uint = refl
found Double = refl

pub base_type_rows : Rows base_types base_type_row cases
unfolding base_types
base_type_rows = record { table_is_rows = refl; found = found }

pub base_type_both_ways : BothWays base_types base_type_row base_type_answer
base_type_both_ways = both_ways base_type_rows

-- The numbers that have a spelling.
pub base_type_known : (n : ℕ) → known base_types n ≡ one_of (1 ∷ 2 ∷ 3 ∷ 19 ∷ 39 ∷ []) n
unfolding base_types
base_type_known = known_one_of base_types

-- The answer of try_from is a row exactly for those.
pub base_type_accepted : (n : ℕ) (r : Result BaseType UnknownCode) → base_type_answer r ≡ lookup base_types n → is_row (base_type_answer r) ≡ one_of (1 ∷ 2 ∷ 3 ∷ 19 ∷ 39 ∷ []) n
unfolding known
base_type_accepted n r e = ap is_row e ∙ base_type_known n
