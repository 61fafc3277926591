-- Reading a spelling: document 01, "Spelling and listing" (`parse_hlsl_type` in the Rust). As a grammar:
--   type    = core | core '[' number ']'          the first '[' parts the two; ']' is the last byte
--   core    = base | base digits.. | base digits.. 'x' number
--             base is all before the first digit; the first 'x' after it parts rows and columns
--   number  = ['+'] digit {digit}                 below 65,536; leading zeros without limit
use Rattle.reflection.specs.Outcome.{Outcome}
use Rattle.reflection.specs.declared.refusal.Refusal.TheVariants.{NoSpelling}
use Rattle.std.specs.Prelude.{Bool, ◌&&◌, cond, List, [], ◌∷◌, ℕ, ◌+◌, ◌*◌, ◌-◌, eqb, leb, ltb, Option, None, Some, Ok, Err}
use Rattle.codes.specs.Microsoft.{D3D_SVC_SCALAR, D3D_SVC_VECTOR, D3D_SVC_MATRIX_COLUMNS, variable_class_number}
use Rattle.reflection.specs.Limits.{u16_limit}
use Rattle.tables.specs.Nodes.{◌>>=◌}
use Rattle.spelling_parse.specs.declared.TypeSpelling.{TypeSpelling}
use Rattle.spelling.specs.Names.{base_number}

abbrev pub is_digit : ℕ → Bool
is_digit b = leb 48 b && leb b 57

-- The value of decimal digits after those of value n; none where a byte is no digit.
unfoldable pub digits_value : List ℕ → ℕ → Option ℕ
digits_value [] n = Some n
digits_value (b ∷ bs) n = cond (is_digit b) (digits_value bs (10 * n + (b - 48))) None

-- One digit or more.
abbrev pub digits_number : List ℕ → Option ℕ
digits_number [] = None
digits_number (b ∷ bs) = digits_value (b ∷ bs) 0

-- A leading `+` is taken.
abbrev pub without_plus : List ℕ → List ℕ
without_plus [] = []
without_plus (b ∷ bs) = cond (eqb b 43) bs (b ∷ bs)

-- A number that fits 16 bits.
abbrev pub as_u16 : ℕ → Option ℕ
as_u16 n = cond (ltb n u16_limit) (Some n) None

unfoldable pub number : List ℕ → Option ℕ
number text = do
  n ← digits_number (without_plus text)
  as_u16 n

-- The bytes before and after the first byte c; none where it does not occur.
abbrev pub after_byte : ℕ → Option (List ℕ × List ℕ) → Option (List ℕ × List ℕ)
after_byte b None = None
after_byte b (Some p) = Some (b ∷ p.0, p.1)

unfoldable pub split_once : ℕ → List ℕ → Option (List ℕ × List ℕ)
split_once c [] = None
split_once c (b ∷ bs) = cond (eqb b c) (Some ([], bs)) (after_byte b (split_once c bs))

-- All but the last byte, which must be c.
unfoldable pub without_last : ℕ → List ℕ → Option (List ℕ)
without_last c [] = None
without_last c (b ∷ []) = cond (eqb b c) (Some []) None
without_last c (b ∷ x ∷ xs) = do
  others ← without_last c (x ∷ xs)
  Some (b ∷ others)

-- The bytes before the first digit, and those from it on.
unfoldable pub before_digit : List ℕ → List ℕ
before_digit [] = []
before_digit (b ∷ bs) = cond (is_digit b) [] (b ∷ before_digit bs)

unfoldable pub from_digit : List ℕ → List ℕ
from_digit [] = []
from_digit (b ∷ bs) = cond (is_digit b) (b ∷ bs) (from_digit bs)

-- Class, rows and columns: none is a scalar; with an `x` a matrix, which comes back as one by columns; else a vector.
abbrev pub Shape : Type 0
Shape = ℕ × (ℕ × ℕ)

abbrev pub shape_of : List ℕ → Option (List ℕ × List ℕ) → Option Shape
shape_of dims (Some p) = do
  rows ← number p.0
  columns ← number p.1
  Some (variable_class_number D3D_SVC_MATRIX_COLUMNS, (rows, columns))
shape_of dims None = do
  columns ← number dims
  Some (variable_class_number D3D_SVC_VECTOR, (1, columns))

abbrev pub shape : List ℕ → Option Shape
shape [] = Some (variable_class_number D3D_SVC_SCALAR, (1, 1))
shape (b ∷ bs) = shape_of (b ∷ bs) (split_once 120 (b ∷ bs))

unfoldable pub core : List ℕ → ℕ → Option TypeSpelling
core text elements = do
  base ← base_number (before_digit text)
  s ← shape (from_digit text)
  Some (record { class = s.0; base = base; rows = s.1.0; columns = s.1.1; elements = elements })

abbrev pub type_from_text : List ℕ → Option (List ℕ × List ℕ) → Option TypeSpelling
type_from_text text None = core text 0
type_from_text text (Some p) = do
  inner ← without_last 93 p.1
  elements ← number inner
  core p.0 elements

-- `parse_hlsl_type`.
unfoldable pub parse_type : List ℕ → Option TypeSpelling
parse_type text = type_from_text text (split_once 91 text)

-- The answer's two cases: the five numbers, or a refusal.
unfoldable pub spelled_type : Option TypeSpelling → Outcome TypeSpelling
spelled_type (Some s) = Ok s
spelled_type None = Err NoSpelling
