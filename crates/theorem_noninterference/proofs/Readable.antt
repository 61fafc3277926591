-- Of the defaults, whether a reflection is readable depends on their lengths alone, and whether its numbers are words depends on nothing. Shown of one
-- reflection whose defaults stand for bytes in two ways, g and g'.
use mathlib.Core.Path.{◌≡◌, refl, ap, sym, ◌∙◌}
use mathlib.Core.List.{List, [], ◌∷◌, ◌++◌, map}
use mathlib.Core.Bool.{Bool, ◌&&◌, ◌||◌}
use Prim.Native.Nat.{ℕ, ◌+◌}
use lib.Dec.{eqb, leb}
use lib.ListN.{length, length-map}
use Rattle.reflection.specs.Limits.{binding_room, buffer_room, variable_room, type_room}
use Rattle.reflection.specs.Reflection.{CBufferVariable, CBufferDef, ResourceDef, map_type, map_binding, map_variable, map_buffer, map_def, is_sm5}
use Rattle.reflection.specs.Reflection.{is_wide}
use Rattle.tables.specs.Nodes.{nodes_of, type_levels}
use Rattle.reflection.specs.Reflection.{all_variables}
use Rattle.reflection.specs.Contents.{Bytes, type_names, variable_names, outer_names, inner_names, defaults_of}
use Rattle.readable.specs.Readable.{every, name_readable, default_readable, zero_unless, version_readable, binding_readable, type_readable}
use Rattle.readable.specs.Readable.{variable_readable, node_count, room_kept, readable_contents}
use Rattle.readable.proofs.ReadableTables.{variables_map}
use Rattle.theorem_round_trip.specs.RoundTrip.{AllWords, variable_numbers, buffer_numbers, BuffersWords, NumbersAreWords}

-- The defaults of what is mapped.
pub defaults_map : {N M D E : Type 0} (f : N → M) (g : D → E) (r : ResourceDef N D) → defaults_of (map_def f g r) ≡ map g (defaults_of r)
unfolding defaults_of map_def map_variable
defaults_map f g r = ap (map (λ v. v.default-value)) (variables_map f g r.constant_buffers) ∙ go (all_variables r.constant_buffers)
  where
    go : (vs : List (CBufferVariable _ _)) → map (λ v. v.default-value) (map (map_variable f g) vs) ≡ map g (map (λ v. v.default-value) vs)
    go [] = refl
    go (v ∷ vs) = ap {B = List _} (λ l. g v.default-value ∷ l) (go vs)

module _ {N M D E : Type 0} (f : N → M) (g g' : D → E) where
  same_buffer_names : (bs : List (CBufferDef N D)) → map (λ b. b.name) (map (map_buffer f g) bs) ≡ map (λ b. b.name) (map (map_buffer f g') bs)
  unfolding map_buffer
  same_buffer_names [] = refl
  same_buffer_names (b ∷ bs) = ap {B = List M} (λ l. f b.name ∷ l) (same_buffer_names bs)

  same_variable_names : (vs : List (CBufferVariable N D)) → variable_names (map (map_variable f g) vs) ≡ variable_names (map (map_variable f g') vs)
  unfolding variable_names map_variable
  same_variable_names [] = refl
  same_variable_names (v ∷ vs) = ap (λ (l : List M). f v.name ∷ (type_names (map_type f v.var_type) ++ l)) (same_variable_names vs)

  same_node_count : (vs : List (CBufferVariable N D)) → node_count (map (map_variable f g) vs) ≡ node_count (map (map_variable f g') vs)
  unfolding node_count map_variable
  same_node_count [] = refl
  same_node_count (v ∷ vs) = ap (λ (n : ℕ). length (nodes_of (f v.name) 0 (map_type f v.var_type)) + n) (same_node_count vs)

  outer_names_same : (r : ResourceDef N D) → outer_names (map_def f g r) ≡ outer_names (map_def f g' r)
  unfolding outer_names map_def
  outer_names_same r = ap (λ (l : List M). map (λ b. b.name) (map (map_binding f) r.bindings) ++ l) (same_buffer_names r.constant_buffers)

  inner_names_same : (r : ResourceDef N D) → inner_names (map_def f g r) ≡ inner_names (map_def f g' r)
  unfolding inner_names map_def
  inner_names_same r =
      ap (λ (l : List M). l ++ (f r.creator ∷ []))
      (ap variable_names (variables_map f g r.constant_buffers) ∙ same_variable_names (all_variables r.constant_buffers)
      ∙ sym (ap variable_names (variables_map f g' r.constant_buffers)))

  room_kept_same : (r : ResourceDef N D) → room_kept (map_def f g r) ≡ room_kept (map_def f g' r)
  unfolding room_kept map_def
  room_kept_same r =
      let bs = r.constant_buffers in
      let buffers : length (map (map_buffer f g) bs) ≡ length (map (map_buffer f g') bs) = length-map bs (map_buffer f g) ∙ sym (length-map bs (map_buffer f g')) in
      let variables : length (all_variables (map (map_buffer f g) bs)) ≡ length (all_variables (map (map_buffer f g') bs)) =
      ap length (variables_map f g bs) ∙ length-map (all_variables bs) (map_variable f g) ∙ sym (length-map (all_variables bs) (map_variable f g'))
      ∙ sym (ap length (variables_map f g' bs)) in
      let nodes : node_count (all_variables (map (map_buffer f g) bs)) ≡ node_count (all_variables (map (map_buffer f g') bs)) =
      ap node_count (variables_map f g bs) ∙ same_node_count (all_variables bs) ∙ sym (ap node_count (variables_map f g' bs)) in
      λ i. leb (length (map (map_binding f) r.bindings)) binding_room &&
      (leb (buffers i) buffer_room && (leb (variables i) variable_room && leb (nodes i) type_room))

  -- No number is a default's.
  variables_words : (vs : List (CBufferVariable N D)) → AllWords variable_numbers (map (map_variable f g) vs)
      → AllWords variable_numbers (map (map_variable f g') vs)
  unfolding AllWords variable_numbers map_variable
  variables_words [] h = tt
  variables_words (v ∷ vs) h = (h.0, variables_words vs h.1)

  buffers_words : (bs : List (CBufferDef N D)) → BuffersWords (map (map_buffer f g) bs) → BuffersWords (map (map_buffer f g') bs)
  unfolding BuffersWords buffer_numbers map_buffer
  buffers_words [] h = tt
  buffers_words (b ∷ bs) h = (h.0, (variables_words b.variables h.1.0, buffers_words bs h.1.1))

  pub numbers_are_words : (r : ResourceDef N D) → NumbersAreWords (map_def f g r) → NumbersAreWords (map_def f g' r)
  unfolding map_def
  numbers_are_words r h = record { header = h.header; bindings = h.bindings; buffers = buffers_words r.constant_buffers h.buffers }

-- Defaults of equal lengths are readable alike.
module _ {N D : Type 0} (f : N → Bytes) (g g' : D → Bytes) (lengths : (d : D) → length (g d) ≡ length (g' d)) where
  variable_same : (sm5 : Bool) (v : CBufferVariable N D) → variable_readable sm5 (map_variable f g v) ≡ variable_readable sm5 (map_variable f g' v)
  unfolding variable_readable default_readable map_variable
  variable_same sm5 v = λ i.
      (eqb (lengths v.default-value i) 0 || eqb (lengths v.default-value i) v.size)
      && (zero_unless sm5 (v.texture_start ∷ v.texture_size ∷ v.sampler_start ∷ v.sampler_size ∷ []) && type_readable sm5 (map_type f v.var_type)
      type_levels)

  variables_same : (sm5 : Bool) (vs : List (CBufferVariable N D)) → every (variable_readable sm5) (map (map_variable f g) vs)
      ≡ every (variable_readable sm5) (map (map_variable f g') vs)
  unfolding every
  variables_same sm5 [] = refl
  variables_same sm5 (v ∷ vs) =
      let q = variables_same sm5 vs in
      λ i. variable_same sm5 v i && q i

  pub readable_same : (r : ResourceDef N D) → readable_contents (map_def f g r) ≡ readable_contents (map_def f g' r)
  unfolding readable_contents map_def
  readable_same r =
      let bs = r.constant_buffers in
      let sm5 = is_sm5 r.rd11 in
      let variables : every (variable_readable sm5) (all_variables (map (map_buffer f g) bs)) ≡ every (variable_readable sm5)
      (all_variables (map (map_buffer f g') bs)) =
      ap (every (variable_readable sm5)) (variables_map f g bs) ∙ variables_same sm5 (all_variables bs)
      ∙ sym (ap (every (variable_readable sm5)) (variables_map f g' bs)) in
      λ i. version_readable r.target_version r.rd11
      && (every name_readable (outer_names_same f g g' r i)
      && (every name_readable (inner_names_same f g g' r i)
      && (every (binding_readable (is_wide r.rd11)) (map (map_binding f) r.bindings) && (variables i && room_kept_same f g g' r i))))
