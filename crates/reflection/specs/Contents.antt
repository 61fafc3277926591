-- What a reflection holds, by its bytes: "where reflections are compared, shared or restored, names and defaults count by their bytes; places may differ"
-- (document 01, "What a reflection holds").
use Rattle.std.specs.Prelude.{List, [], ◌∷◌, ◌++◌, map, ℕ}
use Rattle.reflection.specs.declared.Text.{Text}
use Rattle.reflection.specs.Reflection.{TypeDesc, type_desc, Members, no_member, member, CBufferVariable, ResourceDef, map_def}
use Rattle.reflection.specs.Texts.{text_bytes}
use Rattle.reflection.specs.Reflection.{all_variables}

abbrev pub Bytes : Type 0
Bytes = List ℕ

-- The same reflection with its names and defaults as bytes of the chunk or of the text of edits.
unfoldable pub contents : Bytes → Bytes → ResourceDef Text Text → ResourceDef Bytes Bytes
contents chunk edits r = map_def (text_bytes chunk edits) (text_bytes chunk edits) r

-- The names of a type, of its members and of their types.
unfoldable mutual
  pub type_names : {N : Type 0} → TypeDesc N → List N
  type_names (type_desc k n ms) = n ∷ member_names ms

  pub member_names : {N : Type 0} → Members N → List N
  member_names no_member = []
  member_names (member n o t ms) = n ∷ (type_names t ++ member_names ms)

-- The names of variables and of their types.
unfoldable pub variable_names : {N D : Type 0} → List (CBufferVariable N D) → List N
variable_names [] = []
variable_names (v ∷ vs) = v.name ∷ (type_names v.var_type ++ variable_names vs)

-- The names of the two string pools: bindings with buffers; variables, types, members and creator.
unfoldable pub outer_names : {N D : Type 0} → ResourceDef N D → List N
outer_names r = map (λ b. b.name) r.bindings ++ map (λ b. b.name) r.constant_buffers

unfoldable pub inner_names : {N D : Type 0} → ResourceDef N D → List N
inner_names r = variable_names (all_variables r.constant_buffers) ++ (r.creator ∷ [])

-- The defaults, one for each variable.
unfoldable pub defaults_of : {N D : Type 0} → ResourceDef N D → List D
defaults_of r = map (λ v. v.default-value) (all_variables r.constant_buffers)
