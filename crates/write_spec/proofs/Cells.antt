-- A cell, of what its name or default stands for.
use Rattle.write_spec.specs.Step.{Cell, byte, name_byte, default_byte}

-- The same cell, of what its name or default stands for.
unfoldable pub map_cell : {N D M E : Type 0} → (N → M) → (D → E) → Cell N D → Cell M E
map_cell f g (byte b) = byte b
map_cell f g (name_byte name j) = name_byte (f name) j
map_cell f g (default_byte default j) = default_byte (g default) j
