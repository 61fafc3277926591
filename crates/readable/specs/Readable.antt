-- Readable: document 01, "What a reflection holds", "Readable means exactly this", and nothing else. First what the bytes and numbers must be, whatever
-- tables hold them; then of a reflection in lent tables.
use Rattle.std.specs.Prelude.{Bool, true, false, ◌&&◌, ◌||◌, List, [], ◌∷◌, ℕ, zero, suc, ◌+◌, eqb, leb, length, Option, None, Some}
use Rattle.text.specs.Utf8.{well_formed}
use Rattle.text.specs.Strings.{without_nul}
use Rattle.codes.specs.Table.{known}
use Rattle.codes.specs.Microsoft.{input_types, srv_dimensions}
use Rattle.flags.specs.Flags.{binding_flags_allowed}
use Rattle.reflection.specs.declared.Text.{Text}
use Rattle.reflection.specs.declared.ResourceDef.{ResourceDef as Header}
use Rattle.reflection.specs.Reflection.{TypeNumbers, TypeDesc, type_desc, Members, no_member, member, member_count, CBufferVariable}
use Rattle.reflection.specs.Reflection.{ResourceBinding, ResourceDef, Rd11, no_rd11, rd11, major_of, is_sm5, is_wide}
use Rattle.tables.specs.Nodes.{◌>>=◌, nodes_of, type_levels}
use Rattle.reflection.specs.Reflection.{all_variables}
use Rattle.reflection.specs.Limits.{chunk_limit, binding_room, buffer_room, variable_room, type_room}
use Rattle.reflection.specs.Strides.{rd11_header_size, buffer_stride, variable_stride, type_stride, member_stride}
use Rattle.reflection.specs.Rd11.{rd11_allowed}
use Rattle.tables.specs.Decode.{guard, decode}
use Rattle.reflection.specs.Rd11.{rd11_from_header}
use Rattle.reflection.specs.Texts.{in_place}
use Rattle.reflection.specs.Contents.{Bytes, contents, outer_names, inner_names, defaults_of}

-- Every element passes the test.
unfoldable pub every : {A : Type 0} → (A → Bool) → List A → Bool
every test [] = true
every test (x ∷ xs) = test x && every test xs

-- "names and creator UTF-8 without NUL"
unfoldable pub name_readable : Bytes → Bool
name_readable n = without_nul n && well_formed n

-- "a default empty or of its variable's size"
unfoldable pub default_readable : ℕ → Bytes → Bool
default_readable size d = eqb (length d) 0 || eqb (length d) size

-- Words that only the longer kind of record has are 0 in the other.
unfoldable pub zero_unless : Bool → List ℕ → Bool
zero_unless true ws = true
zero_unless false ws = every (λ w. eqb w 0) ws

-- "major 4 or 5, RD11 words as above and only with major 5"; the sizes that are not held are the paper's.
unfoldable pub version_readable : ℕ → Rd11 → Bool
version_readable version no_rd11 = eqb (major_of version) 4
version_readable version (rd11 identifier stride slots) =
    eqb (major_of version) 5 && rd11_allowed identifier rd11_header_size buffer_stride stride (variable_stride true) (type_stride true) member_stride

-- "codes as in 8 to 10; space and id 0 for stride 32"
unfoldable pub binding_readable : {N : Type 0} → Bool → ResourceBinding N → Bool
binding_readable wide b =
    known input_types b.input_type
    && (known srv_dimensions b.dimension && (binding_flags_allowed b.flags && zero_unless wide (b.space ∷ b.id ∷ [])))

-- "16-bit fields below 65,536"; "for major 4, types without … extra words"
unfoldable pub numbers_readable : Bool → TypeNumbers → Bool
numbers_readable sm5 k =
    every (λ n. leb n 65535) (k.class ∷ k.var_type ∷ k.rows ∷ k.columns ∷ k.elements ∷ []) && zero_unless sm5
    (k.extra0 ∷ k.extra1 ∷ k.extra2 ∷ k.extra3 ∷ [])

-- A type of at most so many levels: "depth at most 64", the root at 0; "for major 4, types without name".
unfoldable mutual
  pub type_readable : Bool → TypeDesc Bytes → ℕ → Bool
  type_readable sm5 (type_desc k n ms) zero = false
  type_readable sm5 (type_desc k n ms) (suc levels) =
      numbers_readable sm5 k && (leb (member_count ms) 65535 && (zero_unless sm5 (length n ∷ []) && members_readable sm5 ms levels))

  pub members_readable : Bool → Members Bytes → ℕ → Bool
  members_readable sm5 no_member levels = true
  members_readable sm5 (member n o t ms) levels = type_readable sm5 t levels && members_readable sm5 ms levels

-- "for major 4, … variables without slots"
unfoldable pub variable_readable : Bool → CBufferVariable Bytes Bytes → Bool
variable_readable sm5 v =
    default_readable v.size v.default-value
    && (zero_unless sm5 (v.texture_start ∷ v.texture_size ∷ v.sampler_start ∷ v.sampler_size ∷ []) && type_readable sm5 v.var_type type_levels)

-- How many type nodes the variables have, a shared descriptor counting at each walk.
unfoldable pub node_count : {N D : Type 0} → List (CBufferVariable N D) → ℕ
node_count [] = 0
node_count (v ∷ vs) = length (nodes_of v.name 0 v.var_type) + node_count vs

-- "room kept": document 01, "Room".
unfoldable pub room_kept : {N D : Type 0} → ResourceDef N D → Bool
room_kept r =
    leb (length r.bindings) binding_room
    && (leb (length r.constant_buffers) buffer_room
    && (leb (length (all_variables r.constant_buffers)) variable_room && leb (node_count (all_variables r.constant_buffers)) type_room))

-- What the contents of a readable reflection are.
unfoldable pub readable_contents : ResourceDef Bytes Bytes → Bool
readable_contents r =
    version_readable r.target_version r.rd11
    && (every name_readable (outer_names r)
    && (every name_readable (inner_names r)
    && (every (binding_readable (is_wide r.rd11)) r.bindings
    && (every (variable_readable (is_sm5 r.rd11)) (all_variables r.constant_buffers) && room_kept r))))

-- A header of another major than 5 has no RD11 words: those that it holds are 0.
unfoldable pub rd11_absent : Header → Bool
rd11_absent h =
    zero_unless (is_sm5 (rd11_from_header h)) (h.rd11.identifier ∷ h.rd11.resource_binding_stride ∷ h.rd11.interface_slot_count ∷ [])

-- Every name and default lies in the buffer that its source names.
unfoldable pub texts_in_place : Bytes → Bytes → ResourceDef Text Text → Bool
texts_in_place chunk edits r =
    every (in_place chunk edits) (outer_names r) && (every (in_place chunk edits) (inner_names r) && every (in_place chunk edits) (defaults_of r))

-- The contents of a reflection in a header, four tables and two buffers: "both buffers at most 65,536 bytes, places inside them, counts that match the
-- records held". Where that is not so it has none.
unfoldable pub table_contents : Bytes → Bytes → Header → List ℕ → List ℕ → List ℕ → List ℕ → Option (ResourceDef Bytes Bytes)
table_contents chunk edits h bindings buffers variables types = do
  _ ← guard (leb (length chunk) chunk_limit && leb (length edits) chunk_limit)
  _ ← guard (rd11_absent h)
  r ← decode h bindings buffers variables types
  _ ← guard (texts_in_place chunk edits r)
  Some (contents chunk edits r)

abbrev pub is_readable : Option (ResourceDef Bytes Bytes) → Bool
is_readable None = false
is_readable (Some r) = readable_contents r

-- Readable, of a reflection in lent tables.
unfoldable pub readable : Bytes → Bytes → Header → List ℕ → List ℕ → List ℕ → List ℕ → Bool
readable chunk edits h bindings buffers variables types = is_readable (table_contents chunk edits h bindings buffers variables types)
