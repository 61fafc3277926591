-- Whether a number is known: an answer that names the row at the number is Ok exactly where the table has the number.
use mathlib.Core.Path.{◌≡◌, ap}
use Prim.Native.Nat.{ℕ}
use Rattle.std.specs.Prelude.{Result, Ok, Err, is_ok}
use Rattle.codes.specs.Table.{Table, lookup, row_of, is_row, known}
use Rattle.codes.specs.Microsoft.{input_types, srv_dimensions}
use Rattle.codes.specs.InputType.{input_type_row, input_type_answer}
use Rattle.codes.specs.Dimension.{dimension_row, dimension_answer}
use Rattle.codes.specs.declared.input_type.ResourceInputType.{ResourceInputType}
use Rattle.codes.specs.declared.dimension.ResourceDimension.{ResourceDimension}
use Rattle.codes.specs.declared.unknown.UnknownCode.{UnknownCode}

pub answer_known : {A X F : Type 0} (row : X → A × ℕ) (table : Table A) (n : ℕ) (r : Result X F) → row_of row r ≡ lookup table n
    → is_ok r ≡ known table n
unfolding known
answer_known row table n (Ok x) e = ap is_row e
answer_known row table n (Err _) e = ap is_row e

pub input_type_known : (n : ℕ) (r : Result ResourceInputType UnknownCode) → input_type_answer r ≡ lookup input_types n
    → is_ok r ≡ known input_types n
input_type_known = answer_known input_type_row input_types

pub dimension_known : (n : ℕ) (r : Result ResourceDimension UnknownCode) → dimension_answer r ≡ lookup srv_dimensions n
    → is_ok r ≡ known srv_dimensions n
dimension_known = answer_known dimension_row srv_dimensions
