-- ResourceDimension is D3D_SRV_DIMENSION, row for row, and its numbers are those up to 11: computed over the table, once for each.
use mathlib.Core.List.{List, [], ◌∷◌}
use mathlib.Core.Path.{◌≡◌, refl, ap, ◌∙◌}
use Prim.Native.Nat.{ℕ}
use native.Mathlib.Omega.{arith}
use lib.Dec.{leb}
use Rattle.std.specs.Prelude.{Result, Ok, Some}
use Rattle.codes.specs.Table.{lookup, known, is_row}
use Rattle.codes.specs.Microsoft.{srv_dimensions}
use Rattle.codes.specs.Dimension.{dimension_row, dimension_answer}
use Rattle.codes.specs.declared.dimension.ResourceDimension.{ResourceDimension}
use Rattle.codes.specs.declared.dimension.ResourceDimension.TheVariants.{Unknown, Buffer, Texture1D, Texture1DArray, Texture2D, Texture2DArray}
use Rattle.codes.specs.declared.dimension.ResourceDimension.TheVariants.{Texture2DMS, Texture2DMSArray, Texture3D, TextureCube}
use Rattle.codes.specs.declared.dimension.ResourceDimension.TheVariants.{TextureCubeArray, BufferEx}
use Rattle.codes.specs.declared.unknown.UnknownCode.{UnknownCode}
use Rattle.codes.proofs.Lookup.{known_up_to}
use Rattle.codes.proofs.BothWays.{Rows, BothWays, case_at, both_ways}

abbrev pub cases : List ResourceDimension
cases =
    Unknown
    ∷ Buffer
    ∷ Texture1D
    ∷ Texture1DArray
    ∷ Texture2D
    ∷ Texture2DArray
    ∷ Texture2DMS
    ∷ Texture2DMSArray
    ∷ Texture3D
    ∷ TextureCube
    ∷ TextureCubeArray
    ∷ BufferEx
    ∷ []

found : (x : ResourceDimension) → case_at dimension_row cases (dimension_row x).1 ≡ Some x
unfolding case_at
found Unknown = refl
found Buffer = refl
found Texture1D = refl
found Texture1DArray = refl
found Texture2D = refl
found Texture2DArray = refl
found Texture2DMS = refl
found Texture2DMSArray = refl
found Texture3D = refl
found TextureCube = refl
found TextureCubeArray = refl
found BufferEx = refl

pub dimension_rows : Rows srv_dimensions dimension_row cases
unfolding srv_dimensions
dimension_rows = record { table_is_rows = refl; found = found }

pub dimension_both_ways : BothWays srv_dimensions dimension_row dimension_answer
dimension_both_ways = both_ways dimension_rows

-- The numbers that the table has are those up to 11.
pub dimension_known_lem : (n : ℕ) → known srv_dimensions n ≡ leb n 11
unfolding srv_dimensions
dimension_known_lem = known_up_to srv_dimensions 11 tt refl

-- The answer of try_from is a row exactly for those.
pub dimension_accepted : (n : ℕ) (r : Result ResourceDimension UnknownCode) → dimension_answer r ≡ lookup srv_dimensions n → is_row (dimension_answer r) ≡ leb n 11
unfolding known
dimension_accepted n r e = ap is_row e ∙ dimension_known_lem n

-- In shader bytecode 3 is a 2D texture. Here it is not.
pub three_is_not_texture_2d : dimension_answer (Ok Texture2D) ≡ lookup srv_dimensions 3 → ⊥
three_is_not_texture_2d e =
    let four : ◌≡◌ {A = ℕ} 4 3 = dimension_both_ways.to_from 3 Texture2D e in
    omega arith
