-- Reflections compared by the bytes of their names and defaults: comparing their contents is comparing them, name by name and default by default, by the bytes.
use mathlib.Core.Path.{◌≡◌, refl, ap}
use mathlib.Core.Bool.{Bool, ◌&&◌}
use mathlib.Core.List.{List, [], ◌∷◌, map}
use Rattle.text.specs.Same.{same_bytes}
use Rattle.reflection.specs.declared.Text.{Text}
use Rattle.reflection.specs.Reflection.{ResourceBinding, CBufferVariable, CBufferDef, ResourceDef, map_binding, map_variable, map_buffer, map_def}
use Rattle.reflection.specs.Contents.{Bytes, contents}
use Rattle.reflection.specs.Texts.{text_bytes}
use Rattle.write_spec.specs.Same.{same_list, same_binding, same_variable, same_buffer, same_def, rd11_numbers}
use Rattle.write_spec.proofs.NaturalSteps.{same_type_map}
use Rattle.compare_types.specs.Same.{same_name}

list_map : {A B : Type 0} (h : A → B) (test : B → B → Bool) (own : A → A → Bool) → ((x y : A) → test (h x) (h y) ≡ own x y)
    → (xs ys : List A) → same_list test (map h xs) (map h ys) ≡ same_list own xs ys
unfolding same_list
list_map h test own each [] [] = refl
list_map h test own each [] (y ∷ ys) = refl
list_map h test own each (x ∷ xs) [] = refl
list_map h test own each (x ∷ xs) (y ∷ ys) =
    let p = each x y in
    let q = list_map h test own each xs ys in
    λ i. p i && q i

module _ {N M : Type 0} (f : N → M) (same : M → M → Bool) where
  abbrev own_test : N → N → Bool
  own_test n m = same (f n) (f m)

  binding_map : (b c : ResourceBinding N) → same_binding same same (map_binding f b) (map_binding f c) ≡ same_binding own_test own_test b c
  unfolding same_binding map_binding
  binding_map b c = refl

  variable_map : (v w : CBufferVariable N N) → same_variable same same (map_variable f f v) (map_variable f f w) ≡ same_variable own_test own_test v w
  unfolding same_variable map_variable
  variable_map v w =
      ap (λ (t : Bool). same (f v.name) (f w.name)
      && (same_bytes
      (v.offset ∷ v.size ∷ v.flags ∷ v.texture_start ∷ v.texture_size ∷ v.sampler_start ∷ v.sampler_size ∷ [])
      (w.offset ∷ w.size ∷ w.flags ∷ w.texture_start ∷ w.texture_size ∷ w.sampler_start ∷ w.sampler_size ∷ [])
      && (same (f v.default-value) (f w.default-value) && t))) (same_type_map f same v.var_type w.var_type)

  buffer_map : (b c : CBufferDef N N) → same_buffer same same (map_buffer f f b) (map_buffer f f c) ≡ same_buffer own_test own_test b c
  unfolding same_buffer map_buffer
  buffer_map b c =
      ap (λ (t : Bool). same (f b.name) (f c.name) && (same_bytes (b.size ∷ b.flags ∷ b.cb_type ∷ []) (c.size ∷ c.flags ∷ c.cb_type ∷ []) && t))
      (list_map (map_variable f f) (same_variable same same) (same_variable own_test own_test) variable_map b.variables c.variables)

  def_map : (r q : ResourceDef N N) → same_def same same (map_def f f r) (map_def f f q) ≡ same_def own_test own_test r q
  unfolding same_def map_def
  def_map r q =
      let bs = list_map (map_binding f) (same_binding same same) (same_binding own_test own_test) binding_map r.bindings q.bindings in
      let cs = list_map (map_buffer f f) (same_buffer same same) (same_buffer own_test own_test) buffer_map r.constant_buffers q.constant_buffers in
      λ i. same_bytes (r.target_version ∷ r.compile_flags ∷ rd11_numbers r.rd11) (q.target_version ∷ q.compile_flags ∷ rd11_numbers q.rd11)
      && (same (f r.creator) (f q.creator) && (bs i && cs i))

pub same_contents : (chunk edits : Bytes) (r q : ResourceDef Text Text)
    → same_def same_bytes same_bytes (contents chunk edits r) (contents chunk edits q) ≡ same_def (same_name chunk edits) (same_name chunk edits) r q
unfolding contents same_name
same_contents chunk edits r q = def_map (text_bytes chunk edits) same_bytes r q
