-- Reading an RDEF chunk: document 01, "Walk order", to the letter. The refusals are those of its table.
use Rattle.reflection.specs.Outcome.{Outcome}
use Rattle.text.specs.declared.Span.{Span}
use Rattle.reflection.specs.declared.refusal.Refusal.TheVariants.{ChunkTooShort, ChunkTooLong, BadVersion, BadCreator, Rd11Missing, BadRd11}
use Rattle.reflection.specs.declared.refusal.Refusal.TheVariants.{RecordPastEnd, BadInputType, BadDimension, BadBindingFlags, BadName, DefaultPastEnd}
use Rattle.reflection.specs.declared.refusal.Refusal.TheVariants.{TypeTooDeep, TypeCycle}
use Rattle.std.specs.Prelude.{Bool, true, false, ◌||◌, not, List, [], ◌∷◌, ℕ, zero, suc, ◌+◌, eqb, leb, length, Option, None, Ok, Err, Some}
use Rattle.words.specs.Words.{word_at, word_if, low_at, high_at}
use Rattle.words.specs.Parts.{inside}
use Rattle.text.specs.Strings.{span}
use Rattle.text.specs.Strings.{cstring_at}
use Rattle.codes.specs.Table.{known}
use Rattle.codes.specs.Microsoft.{input_types, srv_dimensions}
use Rattle.flags.specs.Flags.{binding_flags_allowed}
use Rattle.reflection.specs.declared.Text.{Text}
use Rattle.reflection.specs.Reflection.{TypeNumbers, TypeDesc, type_desc, Members, no_member, member, Rd11, no_rd11, rd11, ResourceBinding}
use Rattle.reflection.specs.Reflection.{CBufferVariable, CBufferDef, ResourceDef, is_sm5, is_wide}
pub use Rattle.reflection.specs.Reflection.{major_of}
pub use Rattle.reflection.specs.Strides.{binding_stride, variable_stride, type_stride}
use Rattle.reflection.specs.Strides.{header_size, rd11_header_size, buffer_stride, member_stride}
use Rattle.reflection.specs.Rd11.{rd11_allowed}
use Rattle.reflection.specs.Limits.{type_levels, chunk_limit}
use Rattle.read_spec.specs.Step.{Room, ReadStep, ◌>>=◌, return, refuse, check, text_or, take_binding, take_buffer, take_variable, take_type}

-- n records from `at` on, one stride after the other. A count of 0 leaves the offset unread.
unfoldable pub read_many : {A : Type 0} → (ℕ → ReadStep A) → ℕ → ℕ → ℕ → ReadStep (List A)
read_many read stride zero at = return []
read_many read stride (suc n) at = do
  x ← read at
  xs ← read_many read stride n (at + stride)
  return (x ∷ xs)

-- Whether a descriptor is on the path that led here.
unfoldable pub on_path : ℕ → List ℕ → Bool
on_path at [] = false
on_path at (x ∷ xs) = eqb at x || on_path at xs

-- n members: each a record, its name, then its type, which `read_type` reads.
unfoldable pub read_members : (ℕ → ReadStep (TypeDesc Text)) → List ℕ → ℕ → ℕ → ReadStep (Members Text)
read_members read_type s zero at = return no_member
read_members read_type s (suc n) at = do
  _ ← check (inside (length s) at member_stride) RecordPastEnd
  name ← text_or BadName (cstring_at s (word_at s at))
  type ← read_type (word_at s (at + 4))
  others ← read_members read_type s n (at + member_stride)
  return (member name (word_at s (at + 8)) type others)

-- A string whose offset 0 means empty, at place 0.
unfoldable pub cstring_or_empty : List ℕ → ℕ → Option Span
cstring_or_empty s zero = Some (span 0 0)
cstring_or_empty s (suc offset) = cstring_at s (suc offset)

-- A type's name: major 5 only.
unfoldable pub type_name_at : List ℕ → Bool → ℕ → Option Span
type_name_at s false at = Some (span 0 0)
type_name_at s true at = cstring_or_empty s (word_at s (at + 32))

-- What a type descriptor's own words say.
unfoldable pub numbers_from : List ℕ → Bool → ℕ → TypeNumbers
numbers_from s sm5 at = record {
  class = low_at s at;
  var_type = high_at s at;
  rows = low_at s (at + 4);
  columns = high_at s (at + 4);
  elements = low_at s (at + 8);
  extra0 = word_if sm5 s (at + 16);
  extra1 = word_if sm5 s (at + 20);
  extra2 = word_if sm5 s (at + 24);
  extra3 = word_if sm5 s (at + 28);
}

-- The type at an offset, with so many levels left below the descriptors on `path`: depth, path, room, range, members, name.
unfoldable pub read_type : List ℕ → Bool → ℕ → List ℕ → ℕ → ReadStep (TypeDesc Text)
read_type s sm5 zero path at = refuse TypeTooDeep
read_type s sm5 (suc levels) path at = do
  _ ← check (not (on_path at path)) TypeCycle
  _ ← take_type
  _ ← check (inside (length s) at (type_stride sm5)) RecordPastEnd
  members ← read_members (λ below. read_type s sm5 levels (at ∷ path) below) s (high_at s (at + 8)) (word_at s (at + 12))
  name ← text_or BadName (type_name_at s sm5 at)
  return (type_desc (numbers_from s sm5 at) name members)

-- A default: offset 0 means empty, at place 0; any other, and it plus the variable's size, must not pass the chunk's end.
unfoldable pub default_at : List ℕ → ℕ → ℕ → Option Span
default_at s zero size = Some (span 0 0)
default_at s (suc offset) size = elim (inside (length s) (suc offset) size) [ true ↦ Some (span (suc offset) size) | false ↦ None ]

-- What a variable's record says, with what its offsets lead to.
unfoldable pub variable_from_chunk : List ℕ → Bool → ℕ → Text → Text → TypeDesc Text → CBufferVariable Text Text
variable_from_chunk s sm5 at name default type = record {
  name = name;
  offset = word_at s (at + 4);
  size = word_at s (at + 8);
  flags = word_at s (at + 12);
  default-value = default;
  texture_start = word_if sm5 s (at + 24);
  texture_size = word_if sm5 s (at + 28);
  sampler_start = word_if sm5 s (at + 32);
  sampler_size = word_if sm5 s (at + 36);
  var_type = type;
}

-- A variable: room, record, default, name, type.
unfoldable pub read_variable : List ℕ → Bool → ℕ → ReadStep (CBufferVariable Text Text)
read_variable s sm5 at = do
  _ ← take_variable
  _ ← check (inside (length s) at (variable_stride sm5)) RecordPastEnd
  default ← text_or DefaultPastEnd (default_at s (word_at s (at + 20)) (word_at s (at + 8)))
  name ← text_or BadName (cstring_at s (word_at s at))
  type ← read_type s sm5 type_levels [] (word_at s (at + 16))
  return (variable_from_chunk s sm5 at name default type)

-- What a buffer's record says.
unfoldable pub buffer_from_chunk : List ℕ → ℕ → Text → List (CBufferVariable Text Text) → CBufferDef Text Text
buffer_from_chunk s at name variables =
    record { name = name; size = word_at s (at + 12); flags = word_at s (at + 16); cb_type = word_at s (at + 20); variables = variables }

-- A buffer: room, record, its variables, then its name.
unfoldable pub read_buffer : List ℕ → Bool → ℕ → ReadStep (CBufferDef Text Text)
read_buffer s sm5 at = do
  _ ← take_buffer
  _ ← check (inside (length s) at buffer_stride) RecordPastEnd
  variables ← read_many (read_variable s sm5) (variable_stride sm5) (word_at s (at + 4)) (word_at s (at + 8))
  name ← text_or BadName (cstring_at s (word_at s at))
  return (buffer_from_chunk s at name variables)

-- What a binding's record says; only the longer one has space and id.
unfoldable pub binding_from_chunk : List ℕ → Bool → ℕ → Text → ResourceBinding Text
binding_from_chunk s wide at name = record {
  name = name;
  input_type = word_at s (at + 4);
  return_type = word_at s (at + 8);
  dimension = word_at s (at + 12);
  num_samples = word_at s (at + 16);
  bind_point = word_at s (at + 20);
  bind_count = word_at s (at + 24);
  flags = word_at s (at + 28);
  space = word_if wide s (at + 32);
  id = word_if wide s (at + 36);
}

-- A binding: room, record, input type, dimension, flags, name. Its codes are in Microsoft's tables.
unfoldable pub read_binding : List ℕ → Bool → ℕ → ReadStep (ResourceBinding Text)
read_binding s wide at = do
  _ ← take_binding
  _ ← check (inside (length s) at (binding_stride wide)) RecordPastEnd
  _ ← check (known input_types (word_at s (at + 4))) BadInputType
  _ ← check (known srv_dimensions (word_at s (at + 12))) BadDimension
  _ ← check (binding_flags_allowed (word_at s (at + 28))) BadBindingFlags
  name ← text_or BadName (cstring_at s (word_at s at))
  return (binding_from_chunk s wide at name)

-- Whether the RD11 words are allowed: the identifier and the six sizes, which follow the header's first seven words.
abbrev pub chunk_rd11_allowed : List ℕ → Bool
chunk_rd11_allowed s = rd11_allowed (word_at s 28) (word_at s 32) (word_at s 36) (word_at s 40) (word_at s 44) (word_at s 48) (word_at s 52)

unfoldable pub read_rd11 : List ℕ → Bool → ReadStep Rd11
read_rd11 s false = return no_rd11
read_rd11 s true = do
  _ ← check (leb rd11_header_size (length s)) Rd11Missing
  _ ← check (chunk_rd11_allowed s) BadRd11
  return (rd11 (word_at s 28) (word_at s 40) (word_at s 56))

-- What follows the header: the bindings, then the buffers.
unfoldable pub read_tables : List ℕ → Text → Rd11 → ReadStep (ResourceDef Text Text)
read_tables s creator words = do
  bindings ← read_many (read_binding s (is_wide words)) (binding_stride (is_wide words)) (word_at s 8) (word_at s 12)
  buffers ← read_many (read_buffer s (is_sm5 words)) buffer_stride (word_at s 0) (word_at s 4)
  return (record {
    target_version = word_at s 16;
    compile_flags = word_at s 20;
    rd11 = words;
    creator = creator;
    bindings = bindings;
    constant_buffers = buffers;
  })

-- The chunk: its length, the major version, the creator, the RD11 words of major 5, the tables.
unfoldable pub read_chunk : List ℕ → ReadStep (ResourceDef Text Text)
read_chunk s = do
  _ ← check (leb header_size (length s)) ChunkTooShort
  _ ← check (leb (length s) chunk_limit) ChunkTooLong
  _ ← check (eqb (major_of (word_at s 16)) 4 || eqb (major_of (word_at s 16)) 5) BadVersion
  creator ← text_or BadCreator (cstring_at s (word_at s 24))
  words ← read_rd11 s (eqb (major_of (word_at s 16)) 5)
  read_tables s creator words

abbrev pub without_room : {A : Type 0} → Outcome (A × Room) → Outcome A
without_room (Ok p) = Ok p.0
without_room (Err e) = Err e

-- What a chunk reads as in a given room.
unfoldable pub read : Room → List ℕ → Outcome (ResourceDef Text Text)
read room s = without_room (read_chunk s room)
