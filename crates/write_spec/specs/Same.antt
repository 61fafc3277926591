-- Equal types and equal reflections: equal numbers; equal names and defaults, by a test.
use Rattle.std.specs.Prelude.{Bool, true, false, ◌&&◌, List, [], ◌∷◌, ℕ, eqb}
use Rattle.text.specs.Same.{same_bytes}
use Rattle.reflection.specs.Reflection.{TypeNumbers, TypeDesc, type_desc, Members, no_member, member, ResourceBinding, CBufferVariable, CBufferDef}
use Rattle.reflection.specs.Reflection.{Rd11, no_rd11, rd11, ResourceDef}

unfoldable pub numbers_of : TypeNumbers → List ℕ
numbers_of k = k.class ∷ k.var_type ∷ k.rows ∷ k.columns ∷ k.elements ∷ k.extra0 ∷ k.extra1 ∷ k.extra2 ∷ k.extra3 ∷ []

unfoldable mutual
  pub same_type : {N : Type 0} → (N → N → Bool) → TypeDesc N → TypeDesc N → Bool
  same_type same (type_desc k n ms) (type_desc k' n' ms') = same_bytes (numbers_of k) (numbers_of k') && (same n n' && same_members same ms ms')

  pub same_members : {N : Type 0} → (N → N → Bool) → Members N → Members N → Bool
  same_members same no_member no_member = true
  same_members same no_member (member n o t ms) = false
  same_members same (member n o t ms) no_member = false
  same_members same (member n o t ms) (member n' o' t' ms') = same n n' && (eqb o o' && (same_type same t t' && same_members same ms ms'))

-- Lists that are equal by a test of their elements.
unfoldable pub same_list : {A : Type 0} → (A → A → Bool) → List A → List A → Bool
same_list same [] [] = true
same_list same [] (y ∷ ys) = false
same_list same (x ∷ xs) [] = false
same_list same (x ∷ xs) (y ∷ ys) = same x y && same_list same xs ys

-- The RD11 words as numbers, a list that is empty where there are none.
unfoldable pub rd11_numbers : Rd11 → List ℕ
rd11_numbers no_rd11 = []
rd11_numbers (rd11 identifier stride slots) = identifier ∷ stride ∷ slots ∷ []

module _ {N D : Type 0} (same_name : N → N → Bool) (same_default : D → D → Bool) where
  unfoldable pub same_binding : ResourceBinding N → ResourceBinding N → Bool
  same_binding b c =
      same_name b.name c.name
      && same_bytes
      (b.input_type ∷ b.return_type ∷ b.dimension ∷ b.num_samples ∷ b.bind_point ∷ b.bind_count ∷ b.flags ∷ b.space ∷ b.id ∷ [])
      (c.input_type ∷ c.return_type ∷ c.dimension ∷ c.num_samples ∷ c.bind_point ∷ c.bind_count ∷ c.flags ∷ c.space ∷ c.id ∷ [])

  unfoldable pub same_variable : CBufferVariable N D → CBufferVariable N D → Bool
  same_variable v w =
      same_name v.name w.name
      && (same_bytes
      (v.offset ∷ v.size ∷ v.flags ∷ v.texture_start ∷ v.texture_size ∷ v.sampler_start ∷ v.sampler_size ∷ [])
      (w.offset ∷ w.size ∷ w.flags ∷ w.texture_start ∷ w.texture_size ∷ w.sampler_start ∷ w.sampler_size ∷ [])
      && (same_default v.default-value w.default-value && same_type same_name v.var_type w.var_type))

  unfoldable pub same_buffer : CBufferDef N D → CBufferDef N D → Bool
  same_buffer b c =
      same_name b.name c.name
      && (same_bytes (b.size ∷ b.flags ∷ b.cb_type ∷ []) (c.size ∷ c.flags ∷ c.cb_type ∷ []) && same_list same_variable b.variables c.variables)

  unfoldable pub same_def : ResourceDef N D → ResourceDef N D → Bool
  same_def r q =
      same_bytes (r.target_version ∷ r.compile_flags ∷ rd11_numbers r.rd11) (q.target_version ∷ q.compile_flags ∷ rd11_numbers q.rd11)
      && (same_name r.creator q.creator
      && (same_list same_binding r.bindings q.bindings && same_list same_buffer r.constant_buffers q.constant_buffers))
