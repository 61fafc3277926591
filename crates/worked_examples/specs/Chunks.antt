-- Chunks of document 01 that only the table speaks of, and what those that read hold. (Case V and its kin: crate write_spec, EdgeChunks.)
use Rattle.std.specs.Prelude.{List, [], ◌∷◌, ◌++◌, ℕ, zero, suc, ◌+◌, replicate, set}
use Rattle.reflection.specs.declared.Text.{Text}
use Rattle.reflection.specs.Reflection.{TypeDesc, type_desc, Members, no_member, member, no_rd11, ResourceBinding, ResourceDef}
use Rattle.reflection.specs.Texts.{in_chunk}
use Rattle.reflection.specs.Contents.{Bytes}
use Rattle.text_output.specs.Ascii.{ascii}
use Rattle.write_spec.specs.EdgeChunks.{bytes, header, major4, globals_text, k_text, no_text, float}

-- Case E: "28 zero bytes with byte 17 set to 4".
unfoldable pub case_e : Bytes
case_e = set (replicate 28 0) 17 4

-- Major 4 with one binding at 28: input type, dimension, flags and name offset vary; 60 bytes.
unfoldable pub one_binding : ℕ → ℕ → ℕ → ℕ → Bytes
one_binding input_type dimension flags name = header 0 0 1 28 major4 0 ++ bytes (name ∷ input_type ∷ 0 ∷ dimension ∷ 0 ∷ 0 ∷ 0 ∷ flags ∷ [])

-- Case V with another type at 92; the creator is the empty string at 60, the NUL of `$Globals`.
unfoldable pub with_type : Bytes → Bytes
with_type type =
    header 1 28 0 28 major4 60 ++ bytes (52 ∷ 1 ∷ 64 ∷ 16 ∷ 0 ∷ 0 ∷ []) ++ globals_text ++ bytes (88 ∷ 0 ∷ 4 ∷ 2 ∷ 92 ∷ 0 ∷ []) ++ k_text ++ type

-- A struct of one member: descriptor at `at`, member record right after it; the member is called `k`.
unfoldable pub struct_of : ℕ → ℕ → Bytes
struct_of at memberType = bytes (5 ∷ 0 ∷ 0x10000 ∷ (at + 16) ∷ 88 ∷ memberType ∷ 0 ∷ [])

-- n structs, each the only member of the one before, and a float: n + 1 nested types.
unfoldable pub nested : ℕ → ℕ → Bytes
nested at zero = bytes (0x30000 ∷ 0x10001 ∷ 0 ∷ 0 ∷ [])
nested at (suc n) = struct_of at (at + 28) ++ nested (at + 28) n

-- A struct of two members, at offsets 0 and 4, that have one descriptor, at 132.
unfoldable pub twice : Bytes
twice = bytes (5 ∷ 0 ∷ 0x20000 ∷ 108 ∷ 88 ∷ 132 ∷ 0 ∷ 88 ∷ 132 ∷ 4 ∷ 0x30000 ∷ 0x10001 ∷ 0 ∷ 0 ∷ [])

-- Case V with a default of four bytes, which lies at 108; the creator at 112; 116 bytes.
unfoldable pub case_vdefault : Bytes → Bytes
case_vdefault default =
    header 1 28 0 28 major4 112 ++ bytes (52 ∷ 1 ∷ 64 ∷ 16 ∷ 0 ∷ 0 ∷ []) ++ globals_text
    ++ bytes (88 ∷ 0 ∷ 4 ∷ 2 ∷ 92 ∷ 108 ∷ []) ++ k_text ++ bytes (0x30000 ∷ 0x10001 ∷ 0 ∷ 0 ∷ []) ++ default ++ no_text

-- Floats `a` and `b` up to the first default: buffer at 28, variables at 64, `a` at 112, the type at 116. The creator's and the second default's
-- offsets vary.
unfoldable pub chunk_ab : ℕ → ℕ → Bytes
chunk_ab creator second =
    header 1 28 0 28 major4 creator ++ bytes (52 ∷ 2 ∷ 64 ∷ 16 ∷ 0 ∷ 0 ∷ []) ++ globals_text
    ++ bytes (112 ∷ 0 ∷ 4 ∷ 2 ∷ 116 ∷ 132 ∷ []) ++ bytes (136 ∷ 4 ∷ 4 ∷ 2 ∷ 116 ∷ second ∷ [])
    ++ ascii "a" ++ (0 ∷ 0xab ∷ 0xab ∷ []) ++ bytes (0x30000 ∷ 0x10001 ∷ 0 ∷ 0 ∷ [])

-- Major 4 with an empty creator, these bindings and no buffers.
unfoldable pub with_bindings : {N D : Type 0} → N → List (ResourceBinding N) → ResourceDef N D
with_bindings creator bindings = record {
  target_version = major4;
  compile_flags = 0;
  rd11 = no_rd11;
  creator = creator;
  bindings = bindings;
  constant_buffers = [];
}

-- A binding by its name, input type and space; the other numbers are 0.
unfoldable pub binding : {N : Type 0} → N → ℕ → ℕ → ResourceBinding N
binding name input_type space = record {
  name = name;
  input_type = input_type;
  return_type = 0;
  dimension = 0;
  num_samples = 0;
  bind_point = 0;
  bind_count = 0;
  flags = 0;
  space = space;
  id = 0;
}

-- What case E reads as.
unfoldable pub empty : ResourceDef Text Text
empty = with_bindings (in_chunk 0 0) []

-- A struct of these members, as major 4 reads it.
unfoldable pub structure : Members Text → TypeDesc Text
structure members =
    type_desc (record { class = 5; var_type = 0; rows = 0; columns = 0; elements = 0; extra0 = 0; extra1 = 0; extra2 = 0; extra3 = 0 }) (in_chunk 0 0) members

-- What `nested` reads as.
unfoldable pub nested_type : ℕ → TypeDesc Text
nested_type zero = float
nested_type (suc n) = structure (member (in_chunk 88 1) 0 (nested_type n) no_member)
