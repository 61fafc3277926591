-- Vocabulary of internal contracts: no contract of an exported function and no demand cites it.
-- The writer's scratch, region by region, and the pools that stand in it (docs/ROOM.md). Three pools of texts come first (crate write_pool): names of bindings
-- and buffers, all other names, defaults. Then the types of variables and the types of members that may be shared, an entry each: the type's node, its
-- offset. Then the words of members' records while a type is written, the offsets of variables, of buffers and of bindings' names.
use Rattle.std.specs.Prelude.{◌≡◌, refl, List, [], ◌∷◌, ℕ, zero, suc, ◌+◌, ◌*◌, ◌/◌, ◌-◌, ◌≤◌, length, get_or, take, drop}
use Rattle.reflection.specs.Limits.{binding_room, buffer_room, variable_room, type_room}
use Rattle.reflection.specs.Strides.{member_stride}
use Rattle.reflection.specs.declared.Text.{Text}
use Rattle.reflection.specs.Reflection.{TypeDesc}
use Rattle.write_spec.specs.Step.{Pools, pools}
pub use Rattle.write_spec.specs.Outcome.{scratch_size}
use Rattle.write_pool.specs.Pool.{Indexed, entries}

-- The words of each pool of texts.
abbrev pub outer_size : ℕ
outer_size = 8192

abbrev pub inner_size : ℕ
inner_size = 43008

abbrev pub defaults_size : ℕ
defaults_size = 12288

-- The words of an entry for a type that may be shared, of a member's record, and of the offsets of a variable and of a buffer; of a binding there is one.
abbrev pub shared_width : ℕ
shared_width = 2

abbrev pub member_width : ℕ
member_width = member_stride / 4

abbrev pub variable_offsets_width : ℕ
variable_offsets_width = 3

abbrev pub buffer_offsets_width : ℕ
buffer_offsets_width = 2

-- Where each region begins: the first at 0, any other where the one before it ends. There is room for an entry for the type of each variable and for each node,
-- for a member's record for each node, and for the offsets of each variable, buffer and binding.
abbrev pub inner_start : ℕ
inner_start = outer_size

abbrev pub defaults_start : ℕ
defaults_start = inner_start + inner_size

abbrev pub root_types_start : ℕ
root_types_start = defaults_start + defaults_size

abbrev pub member_types_start : ℕ
member_types_start = root_types_start + variable_room * shared_width

abbrev pub records_start : ℕ
records_start = member_types_start + type_room * shared_width

abbrev pub variables_start : ℕ
variables_start = records_start + type_room * member_width

abbrev pub buffers_start : ℕ
buffers_start = variables_start + variable_room * variable_offsets_width

abbrev pub bindings_start : ℕ
bindings_start = buffers_start + buffer_room * buffer_offsets_width

-- The last region ends where the scratch does.
pub scratch_filled : bindings_start + binding_room ≡ scratch_size
scratch_filled = refl

-- The words from one place up to another.
unfoldable pub region : ℕ → ℕ → List ℕ → List ℕ
region from to s = take (to - from) (drop from s)

unfoldable pub outer_pool : List ℕ → List ℕ
outer_pool s = region 0 inner_start s

unfoldable pub inner_pool : List ℕ → List ℕ
inner_pool s = region inner_start defaults_start s

unfoldable pub default_pool : List ℕ → List ℕ
default_pool s = region defaults_start root_types_start s

-- n type entries from entry `base` on, the newest first; `start` is where the entries' region begins, and `tree` gives the type at a node.
unfoldable pub types_from : (ℕ → TypeDesc Text) → ℕ → List ℕ → ℕ → ℕ → List (TypeDesc Text × ℕ)
types_from tree start s base zero = []
types_from tree start s base (suc n) =
    (tree (get_or s (start + (base + n) * shared_width) 0), get_or s (start + (base + n) * shared_width + 1) 0) ∷ types_from tree start s base n

-- The pools in the scratch: of types, those among which one is looked up are handed in, and the members' are n entries from `base` on.
unfoldable pub pools_in : List ℕ → List (TypeDesc Text × ℕ) → (ℕ → TypeDesc Text) → ℕ → ℕ → Pools Text Text
pools_in s types tree base n =
    pools (entries (outer_pool s)) (entries (inner_pool s)) types (types_from tree member_types_start s base n) (entries (default_pool s))

-- The scratch is long enough, and its three pools of texts are in order.
pub record PoolsReady (chunk edits s : List ℕ) : Type 0 where
  pub long : scratch_size ≤ length s
  pub outer : Indexed chunk edits (outer_pool s)
  pub inner : Indexed chunk edits (inner_pool s)
  pub defaults : Indexed chunk edits (default_pool s)
