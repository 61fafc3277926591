-- Document 01, "Reference functions and room": how much a reflection may hold.
use Rattle.std.specs.Prelude.{ℕ, ◌*◌}

-- Records of each table.
abbrev pub binding_room : ℕ
binding_room = 1024

abbrev pub buffer_room : ℕ
buffer_room = 64

abbrev pub variable_room : ℕ
variable_room = 2048

abbrev pub type_room : ℕ
type_room = 4096

-- The bytes of a chunk, of a text of edits and of an output.
abbrev pub chunk_limit : ℕ
chunk_limit = 65536

-- A number of 16 bits is below this.
abbrev pub u16_limit : ℕ
u16_limit = 65536

-- The widths of the tables' records, in words.
abbrev pub binding_width : ℕ
binding_width = 12

abbrev pub buffer_width : ℕ
buffer_width = 7

abbrev pub variable_width : ℕ
variable_width = 13

abbrev pub type_width : ℕ
type_width = 17

-- The words of a header where it is lent as words.
abbrev pub header_width : ℕ
header_width = 12

-- The words of a table that has the whole room.
abbrev pub binding_table : ℕ
binding_table = binding_room * binding_width

abbrev pub buffer_table : ℕ
buffer_table = buffer_room * buffer_width

abbrev pub variable_table : ℕ
variable_table = variable_room * variable_width

abbrev pub type_table : ℕ
type_table = type_room * type_width

-- The root of a type stands at depth 0 and the deepest node at 64: 65 levels.
abbrev pub type_levels : ℕ
type_levels = 65
