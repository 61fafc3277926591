-- The canonical form of a reflection whose names and defaults are bytes: the layout's cells, filled in (document 01, "Canonical form").
use Rattle.std.specs.Prelude.{map, ℕ, length, get_or}
use Rattle.text.specs.Same.{same_bytes}
use Rattle.reflection.specs.Reflection.{ResourceDef}
use Rattle.reflection.specs.Contents.{Bytes}
use Rattle.write_spec.specs.Step.{Cell, byte, name_byte, default_byte, TextFacts}
use Rattle.write_spec.specs.Layout.{layout}

-- What the layout may know of names and defaults that are bytes: how long they are, and which are equal.
unfoldable pub bytes_facts : TextFacts Bytes Bytes
bytes_facts = record { name_length = length; same_name = same_bytes; default_length = length; same_default = same_bytes }

-- The byte of a cell.
unfoldable pub fill : Cell Bytes Bytes → ℕ
fill (byte b) = b
fill (name_byte name j) = get_or name j 0
fill (default_byte default j) = get_or default j 0

unfoldable pub canonical : ResourceDef Bytes Bytes → Bytes
canonical r = map fill (layout bytes_facts r).cells
