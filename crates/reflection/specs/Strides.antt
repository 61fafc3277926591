-- The sizes of an RDEF chunk's header and records in bytes, and its two RD11 identifiers (document 01, "Walk order").
use Rattle.std.specs.Prelude.{Bool, true, false, ℕ}

abbrev pub header_size : ℕ
header_size = 28

-- The header with the eight RD11 words of major 5.
abbrev pub rd11_header_size : ℕ
rd11_header_size = 60

-- A binding of 40 bytes has space and id.
abbrev pub binding_stride : Bool → ℕ
binding_stride false = 32
binding_stride true = 40

abbrev pub buffer_stride : ℕ
buffer_stride = 24

-- Major 5 has longer variables and type descriptors.
abbrev pub variable_stride : Bool → ℕ
variable_stride false = 24
variable_stride true = 40

abbrev pub type_stride : Bool → ℕ
type_stride false = 16
type_stride true = 36

abbrev pub member_stride : ℕ
member_stride = 12

-- "RD11" for shader model 5.0, and the identifier of 5.1.
abbrev pub rd11_identifier : ℕ
rd11_identifier = 0x31314452

abbrev pub sm51_identifier : ℕ
sm51_identifier = 0x25441313
