-- Vocabulary of internal contracts: no contract of an exported function and no demand cites it. The writer before and after a call.
use Rattle.std.specs.Prelude.{◌≡◌, ℕ}
use Rattle.write_texts.specs.Cursor.{Placement, WriteCursor}
use Rattle.write_texts.specs.declared.writer.Writer.{Writer}

-- Where the writer stands.
abbrev pub cursor_of : Writer → WriteCursor
cursor_of w = record { at = w.out.now.at; node = w.node; member_types = w.member_types; root_types = w.root_types }

-- What was placed at an offset, with the writer behind it.
abbrev pub placed_at : ℕ → Writer → Placement
placed_at offset w = record { offset = offset; at = w.out.now.at }

-- The scratch and the output are still those that were lent.
pub record SameLent (before after : Writer) : Type 0 where
  pub scratch : after.scratch.ghost_name ≡ before.scratch.ghost_name
  pub out : after.out.ghost_name ≡ before.out.ghost_name
  pub bytes : after.out.now.bytes.ghost_name ≡ before.out.now.bytes.ghost_name

-- And no type was placed.
pub record SameTypes (before after : Writer) : Type 0 where
  pub lent : SameLent before after
  pub node : after.node ≡ before.node
  pub member_types : after.member_types ≡ before.member_types
  pub root_types : after.root_types ≡ before.root_types
