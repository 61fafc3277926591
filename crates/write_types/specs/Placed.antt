-- Vocabulary of internal contracts: no contract of an exported function and no demand cites it.
-- Where a type or members were placed, with the writer behind them.
use Rattle.std.specs.Prelude.{ℕ}
use Rattle.text_output.specs.declared.output.Output.{Output}
use Rattle.write_texts.specs.Cursor.{Placement, WriteCursor}
use Rattle.write_texts.specs.Writer.{cursor_of}
use Rattle.write_texts.specs.declared.writer.Writer.{Writer}

-- A type that was placed, and where the writer stands after it.
pub record PlacedType : Type 0 where
  pub offset : ℕ
  pub cursor : WriteCursor

-- Where the writer stands after members, and where their records' words end.
pub record PlacedMembers : Type 0 where
  pub cursor : WriteCursor
  pub records_top : ℕ

abbrev pub placed_type : ℕ → Writer → PlacedType
placed_type offset w = record { offset = offset; cursor = cursor_of w }

abbrev pub placed_members : ℕ → Writer → PlacedMembers
placed_members records_top w = record { cursor = cursor_of w; records_top = records_top }

-- What was put at an offset, with the output behind it.
abbrev pub put_at : ℕ → Output → Placement
put_at offset out = record { offset = offset; at = out.at }
