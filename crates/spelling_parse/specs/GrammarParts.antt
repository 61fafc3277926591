-- Vocabulary of internal contracts: no contract of an exported function and no demand cites it. The parts of reading a spelling (Grammar.antt) that have a
-- function of their own in the code.
use Rattle.std.specs.Prelude.{List, ℕ, Option, None, Some}
use Rattle.codes.specs.Variable.{base_type_row, class_row}
use Rattle.codes.specs.declared.variable.BaseType.{BaseType}
use Rattle.tables.specs.Nodes.{◌>>=◌}
use Rattle.spelling_parse.specs.declared.parse.Dimensions.{Dimensions}
use Rattle.spelling_parse.specs.Grammar.{Shape, without_last, number}

-- The number of elements, from what follows the first '['.
unfoldable pub elements_of : List ℕ → Option ℕ
elements_of rest = do
  inner ← without_last 93 rest
  number inner

-- The number of a base type that was read, or none.
abbrev pub base_read : Option BaseType → Option ℕ
base_read (Some base) = Some (base_type_row base).1
base_read None = None

-- The class, rows and columns that were read, or none.
abbrev pub dimensions_read : Option Dimensions → Option Shape
dimensions_read (Some d) = Some ((class_row d.class).1, (d.rows, d.columns))
dimensions_read None = None
