-- A reflection: what an RDEF chunk says, in the shape of the Rust's structs. N is what stands for a name and D what stands for a default: a
-- place in a buffer (`Text`) as reading gives them, or their bytes where two reflections are compared (document 01, "What a reflection holds").
use Rattle.std.specs.Prelude.{Bool, true, false, List, [], ◌∷◌, ◌++◌, map, ℕ, suc, ◌/◌, ◌%◌, eqb}
use Rattle.reflection.specs.Strides.{binding_stride}

-- The numbers of a type descriptor (`TypeDesc`); `extra` is what major 5 adds, 0 for major 4.
pub record TypeNumbers : Type 0 where
  pub class : ℕ
  pub var_type : ℕ
  pub rows : ℕ
  pub columns : ℕ
  pub elements : ℕ
  pub extra0 : ℕ
  pub extra1 : ℕ
  pub extra2 : ℕ
  pub extra3 : ℕ

-- A type descriptor: its numbers, its name, its members. A member (`MemberDesc`) has a name, an offset and a type.
mutual
  pub data TypeDesc (N : Type 0) : Type 0 where
    type_desc : TypeNumbers → N → Members N → TypeDesc N

  pub data Members (N : Type 0) : Type 0 where
    no_member : Members N
    member : N → ℕ → TypeDesc N → Members N → Members N

-- How many members there are.
unfoldable pub member_count : {N : Type 0} → Members N → ℕ
member_count no_member = 0
member_count (member n o t ms) = suc (member_count ms)

pub record CBufferVariable (N D : Type 0) : Type 0 where
  pub name : N
  pub offset : ℕ
  pub size : ℕ
  pub flags : ℕ
  pub default-value : D
  pub texture_start : ℕ
  pub texture_size : ℕ
  pub sampler_start : ℕ
  pub sampler_size : ℕ
  pub var_type : TypeDesc N

pub record CBufferDef (N D : Type 0) : Type 0 where
  pub name : N
  pub size : ℕ
  pub flags : ℕ
  pub cb_type : ℕ
  pub variables : List (CBufferVariable N D)

pub record ResourceBinding (N : Type 0) : Type 0 where
  pub name : N
  pub input_type : ℕ
  pub return_type : ℕ
  pub dimension : ℕ
  pub num_samples : ℕ
  pub bind_point : ℕ
  pub bind_count : ℕ
  pub flags : ℕ
  pub space : ℕ
  pub id : ℕ

-- The RD11 words that are free: identifier, binding stride, interface slots. Major 4 has none.
pub data Rd11 : Type 0 where
  no_rd11 : Rd11
  rd11 : ℕ → ℕ → ℕ → Rd11

pub record ResourceDef (N D : Type 0) : Type 0 where
  pub target_version : ℕ
  pub compile_flags : ℕ
  pub rd11 : Rd11
  pub creator : N
  pub bindings : List (ResourceBinding N)
  pub constant_buffers : List (CBufferDef N D)

-- The major version: bits 8 to 15 of the version word.
abbrev pub major_of : ℕ → ℕ
major_of version = version / 256 % 256

-- Whether the chunk is of major 5, and whether its binding records have space and id.
abbrev pub is_sm5 : Rd11 → Bool
is_sm5 no_rd11 = false
is_sm5 (rd11 identifier stride slots) = true

abbrev pub is_wide : Rd11 → Bool
is_wide no_rd11 = false
is_wide (rd11 identifier stride slots) = eqb stride (binding_stride true)

-- The three words as numbers; 0 for major 4.
abbrev pub identifier_of : Rd11 → ℕ
identifier_of no_rd11 = 0
identifier_of (rd11 identifier stride slots) = identifier

abbrev pub stride_of : Rd11 → ℕ
stride_of no_rd11 = 0
stride_of (rd11 identifier stride slots) = stride

abbrev pub slots_of : Rd11 → ℕ
slots_of no_rd11 = 0
slots_of (rd11 identifier stride slots) = slots

-- Another kind of name and default in the same reflection.
unfoldable mutual
  pub map_type : {N M : Type 0} → (N → M) → TypeDesc N → TypeDesc M
  map_type f (type_desc k n ms) = type_desc k (f n) (map_members f ms)

  pub map_members : {N M : Type 0} → (N → M) → Members N → Members M
  map_members f no_member = no_member
  map_members f (member n o t ms) = member (f n) o (map_type f t) (map_members f ms)

unfoldable pub map_binding : {N M : Type 0} → (N → M) → ResourceBinding N → ResourceBinding M
map_binding f b = record {
  name = f b.name;
  input_type = b.input_type;
  return_type = b.return_type;
  dimension = b.dimension;
  num_samples = b.num_samples;
  bind_point = b.bind_point;
  bind_count = b.bind_count;
  flags = b.flags;
  space = b.space;
  id = b.id;
}

unfoldable pub map_variable : {N M D E : Type 0} → (N → M) → (D → E) → CBufferVariable N D → CBufferVariable M E
map_variable f g v = record {
  name = f v.name;
  offset = v.offset;
  size = v.size;
  flags = v.flags;
  default-value = g v.default-value;
  texture_start = v.texture_start;
  texture_size = v.texture_size;
  sampler_start = v.sampler_start;
  sampler_size = v.sampler_size;
  var_type = map_type f v.var_type;
}

unfoldable pub map_buffer : {N M D E : Type 0} → (N → M) → (D → E) → CBufferDef N D → CBufferDef M E
map_buffer f g b = record { name = f b.name; size = b.size; flags = b.flags; cb_type = b.cb_type; variables = map (map_variable f g) b.variables }

unfoldable pub map_def : {N M D E : Type 0} → (N → M) → (D → E) → ResourceDef N D → ResourceDef M E
map_def f g r = record {
  target_version = r.target_version;
  compile_flags = r.compile_flags;
  rd11 = r.rd11;
  creator = f r.creator;
  bindings = map (map_binding f) r.bindings;
  constant_buffers = map (map_buffer f g) r.constant_buffers;
}

-- All variables of buffers, in walk order.
unfoldable pub all_variables : {N D : Type 0} → List (CBufferDef N D) → List (CBufferVariable N D)
all_variables [] = []
all_variables (b ∷ bs) = b.variables ++ all_variables bs
