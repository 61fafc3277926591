-- ResourceInputType is D3D_SHADER_INPUT_TYPE, row for row, and its numbers are those up to 13: computed over the table, once for each.
use mathlib.Core.List.{List, [], ◌∷◌}
use mathlib.Core.Path.{◌≡◌, refl, ap, ◌∙◌}
use Prim.Native.Nat.{ℕ}
use lib.Dec.{leb}
use Rattle.std.specs.Prelude.{Result, Some}
use Rattle.codes.specs.Table.{lookup, known, is_row}
use Rattle.codes.specs.Microsoft.{input_types}
use Rattle.codes.specs.InputType.{input_type_row, input_type_answer}
use Rattle.codes.specs.declared.input_type.ResourceInputType.{ResourceInputType}
use Rattle.codes.specs.declared.input_type.ResourceInputType.TheVariants.{CBuffer, TBuffer, Texture, Sampler, UavRwTyped, Structured}
use Rattle.codes.specs.declared.input_type.ResourceInputType.TheVariants.{UavRwStructured, ByteAddress, UavRwByteAddress, UavAppendStructured}
use Rattle.codes.specs.declared.input_type.ResourceInputType.TheVariants.{UavConsumeStructured, UavRwStructuredWithCounter}
use Rattle.codes.specs.declared.input_type.ResourceInputType.TheVariants.{RtAccelerationStructure, UavFeedbackTexture}
use Rattle.codes.specs.declared.unknown.UnknownCode.{UnknownCode}
use Rattle.codes.proofs.Lookup.{known_up_to}
use Rattle.codes.proofs.BothWays.{Rows, BothWays, case_at, both_ways}

abbrev pub cases : List ResourceInputType
cases =
    CBuffer
    ∷ TBuffer
    ∷ Texture
    ∷ Sampler
    ∷ UavRwTyped
    ∷ Structured
    ∷ UavRwStructured
    ∷ ByteAddress
    ∷ UavRwByteAddress
    ∷ UavAppendStructured
    ∷ UavConsumeStructured
    ∷ UavRwStructuredWithCounter
    ∷ RtAccelerationStructure
    ∷ UavFeedbackTexture
    ∷ []

found : (x : ResourceInputType) → case_at input_type_row cases (input_type_row x).1 ≡ Some x
unfolding case_at
found CBuffer = refl
found TBuffer = refl
found Texture = refl
found Sampler = refl
found UavRwTyped = refl
found Structured = refl
found UavRwStructured = refl
found ByteAddress = refl
found UavRwByteAddress = refl
found UavAppendStructured = refl
found UavConsumeStructured = refl
found UavRwStructuredWithCounter = refl
found RtAccelerationStructure = refl
found UavFeedbackTexture = refl

pub input_type_rows : Rows input_types input_type_row cases
unfolding input_types
input_type_rows = record { table_is_rows = refl; found = found }

pub input_type_both_ways : BothWays input_types input_type_row input_type_answer
input_type_both_ways = both_ways input_type_rows

-- The numbers that the table has are those up to 13.
pub input_type_known_lem : (n : ℕ) → known input_types n ≡ leb n 13
unfolding input_types
input_type_known_lem = known_up_to input_types 13 tt refl

-- The answer of try_from is a row exactly for those.
pub input_type_accepted : (n : ℕ) (r : Result ResourceInputType UnknownCode) → input_type_answer r ≡ lookup input_types n → is_row (input_type_answer r) ≡ leb n 13
unfolding known
input_type_accepted n r e = ap is_row e ∙ input_type_known_lem n
