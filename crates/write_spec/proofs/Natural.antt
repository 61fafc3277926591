-- The layout does not depend on what stands for names and defaults: it sees them through the oracle alone, so places or numbers that stand for bytes are
-- laid out as the bytes are, with the same results, and cells and pools of the one for cells and pools of the other. Shown of each step in turn.
use mathlib.Core.Path.{◌≡◌, refl, ap, sym, ◌∙◌, subst}
use mathlib.Core.Bool.{Bool, true, ◌&&◌}
use mathlib.Core.List.{List, [], ◌∷◌, ◌++◌, map, map-append}
use Prim.Native.Nat.{ℕ, ◌*◌}
use lib.Dec.{eqb}
use lib.ListN.{length-map}
use Rattle.reflection.specs.Reflection.{TypeNumbers, TypeDesc, type_desc, Members, no_member, member, member_count, CBufferVariable, CBufferDef}
use Rattle.reflection.specs.Reflection.{ResourceDef, is_sm5, is_wide, map_type, map_members, map_binding, map_variable, map_buffer, map_def}
use Rattle.reflection.specs.Contents.{Bytes}
use Rattle.write_spec.specs.Step.{Cell, byte, name_byte, default_byte, TextFacts, pools, WriteStep, add_type, cells_of}
use Rattle.write_spec.specs.Records.{type_words_in_chunk, variable_words_in_chunk, variable_size, buffer_words_in_chunk, buffer_size}
use Rattle.write_spec.specs.Records.{binding_words_in_chunk}
use Rattle.write_spec.specs.Records.{binding_size, header_words_in_chunk, rd11_words, header_word_count, BodyOffsets}
use Rattle.write_spec.specs.Layout.{zip, name_cells, place_outer_name, place_inner_name, place_default, write_type, place_type, place_members}
use Rattle.write_spec.specs.Layout.{place_variable, place_variables, place_section, place_sections, place_outer_names, place_buffer_parts}
use Rattle.write_spec.specs.Layout.{place_buffers}
use Rattle.write_spec.specs.Layout.{place_body, place_chunk, layout}
use Rattle.write_spec.specs.Canonical.{bytes_facts, fill, canonical}
use Rattle.write_spec.proofs.Cells.{map_cell}
use Rattle.write_spec.specs.Through.{through, fill_through}
use Rattle.write_spec.proofs.NaturalSteps.{map_placed, Natural, find_map, find_type_map, member_count_map, rows_map, map_cells_of, bind_natural}
use Rattle.write_spec.proofs.NaturalSteps.{return_natural, append_natural, remember_natural, remember_if_natural, pad_natural, words_natural}
use Rattle.write_spec.proofs.NaturalSteps.{ahead_natural, below_natural, once_natural, unless_empty_natural}

module _ {N D M E : Type 0} (f : N → M) (g : D → E) (O : TextFacts M E) where
  abbrev O' : TextFacts N D
  O' = through f g O

  map_name_cells : (n : N) → name_cells O (f n) ≡ map (map_cell f g) (name_cells O' n)
  unfolding name_cells through map_cell
  map_name_cells n =
      ap (λ (l : List (Cell M E)). l ++ (byte 0 ∷ [])) (map_cells_of f g (O.name_length (f n)) (name_byte (f n)) (name_byte n) (λ j. refl))
      ∙ sym (map-append (map_cell f g) (cells_of (O.name_length (f n)) (name_byte n)) (byte 0 ∷ []))

  outer_name_natural : (n : N) → Natural f g (place_outer_name O (f n)) (place_outer_name O' n)
  unfolding place_outer_name through
  outer_name_natural n =
      once_natural f g true _ _ (λ ps. find_map (O.same_name (f n)) f ps.outer_names)
      (bind_natural f g (append_natural f g _ _ (map_name_cells n)) λ o. remember_natural f g _ _ o (λ ps. refl))

  inner_name_natural : (n : N) → Natural f g (place_inner_name O (f n)) (place_inner_name O' n)
  unfolding place_inner_name through
  inner_name_natural n =
      once_natural f g true _ _ (λ ps. find_map (O.same_name (f n)) f ps.inner_names)
      (bind_natural f g (append_natural f g _ _ (map_name_cells n)) λ o. remember_natural f g _ _ o (λ ps. refl))

  default_natural : (d : D) → Natural f g (place_default O (g d)) (place_default O' d)
  unfolding place_default through map_cell
  default_natural d =
      unless_empty_natural f g (O.default_length (g d)) (once_natural f g true _ _ (λ ps. find_map (O.same_default (g d)) g ps.defaults)
      (bind_natural f g (pad_natural f g) λ _.
      bind_natural f g (append_natural f g _ _ (map_cells_of f g (O.default_length (g d)) (default_byte (g d)) (default_byte d) (λ j. refl))) λ o.
      remember_natural f g _ _ o (λ ps. refl)))

  write_type_natural : (sm5 : Bool) (k : TypeNumbers) (n : N) (count count' : ℕ) {ms : WriteStep M E (List ℕ)} {ms' : WriteStep N D (List ℕ)}
      → count ≡ count' → Natural f g ms ms'
      → Natural f g (write_type O sm5 k (f n) count ms) (write_type O' sm5 k n count' ms')
  unfolding write_type through
  write_type_natural sm5 k n count count' {ms} {ms'} e h =
      subst (λ (c : ℕ). Natural f g (write_type O sm5 k (f n) count ms) (write_type O' sm5 k n c ms')) e
      (bind_natural f g (unless_empty_natural f g (O.name_length (f n)) (inner_name_natural n)) λ name. bind_natural f g h λ records.
      bind_natural f g (unless_empty_natural f g count (bind_natural f g (pad_natural f g) λ _. words_natural f g records)) λ members. bind_natural f
      g (pad_natural f g) λ _.
      words_natural f g (type_words_in_chunk sm5 k count members name))

  mutual
    unfolding place_type map_type through

    type_natural : (sm5 share : Bool) (t : TypeDesc N) → Natural f g (place_type O sm5 share (map_type f t)) (place_type O' sm5 share t)
    type_natural sm5 share (type_desc k n ms) =
        once_natural f g (share && eqb k.elements 0) _ _ (λ ps. find_type_map f O.same_name (type_desc k n ms) ps.types)
        (bind_natural f g (write_type_natural sm5 k n (member_count (map_members f ms)) (member_count ms) (member_count_map f ms) (members_natural sm5 ms)) λ o.
        remember_if_natural f g share (add_type (type_desc k (f n) (map_members f ms))) (add_type (type_desc k n ms)) o (λ ps. refl))

    members_natural : (sm5 : Bool) (ms : Members N) → Natural f g (place_members O sm5 (map_members f ms)) (place_members O' sm5 ms)
    members_natural sm5 no_member = return_natural f g []
    members_natural sm5 (member n offset t ms) =
        bind_natural f g (inner_name_natural n) λ name. bind_natural f g (below_natural f g (type_natural sm5 true t)) λ type. bind_natural f g
        (members_natural sm5 ms) λ records.
        return_natural f g (name ∷ type ∷ offset ∷ records)

  variable_natural : (sm5 share : Bool) (v : CBufferVariable N D) → Natural f g (place_variable O sm5 share (map_variable f g v)) (place_variable O' sm5 share v)
  unfolding place_variable map_variable
  variable_natural sm5 share v =
      bind_natural f g (inner_name_natural v.name) λ name. bind_natural f g (type_natural sm5 share v.var_type) λ type. bind_natural f g
      (default_natural v.default-value) λ default.
      return_natural f g (record { name = name; type = type; default = default })

  variables_natural : (sm5 share : Bool) (vs : List (CBufferVariable N D))
      → Natural f g (place_variables O sm5 share (map (map_variable f g) vs)) (place_variables O' sm5 share vs)
  unfolding place_variables
  variables_natural sm5 share [] = return_natural f g []
  variables_natural sm5 share (v ∷ vs) = bind_natural f g (variable_natural sm5 share v) λ o. bind_natural f g (variables_natural sm5 share vs) λ os.
      return_natural f g (o ∷ os)

  section_natural : (sm5 : Bool) (b : CBufferDef N D) → Natural f g (place_section O sm5 (map_buffer f g b)) (place_section O' sm5 b)
  unfolding place_section map_buffer map_variable variable_words_in_chunk
  section_natural sm5 b =
      bind_natural f g (pad_natural f g) λ start.
      bind_natural f g
      (ahead_natural f g (ap (λ (n : ℕ). n * variable_size sm5) (length-map b.variables (map_variable f g)))
      (rows_map (variable_words_in_chunk sm5) (variable_words_in_chunk sm5) (map_variable f g) (λ v o. refl) b.variables)
      (variables_natural sm5 (eqb b.cb_type 0) b.variables)) λ os.
      return_natural f g (record { start = start; offsets = os })

  sections_natural : (sm5 : Bool) (bs : List (CBufferDef N D)) → Natural f g (place_sections O sm5 (map (map_buffer f g) bs)) (place_sections O' sm5 bs)
  unfolding place_sections
  sections_natural sm5 [] = return_natural f g []
  sections_natural sm5 (b ∷ bs) = bind_natural f g (section_natural sm5 b) λ s. bind_natural f g (sections_natural sm5 bs) λ ss. return_natural f g (s ∷ ss)

  outer_names_natural : (ns : List N) → Natural f g (place_outer_names O (map f ns)) (place_outer_names O' ns)
  unfolding place_outer_names
  outer_names_natural [] = return_natural f g []
  outer_names_natural (n ∷ ns) = bind_natural f g (outer_name_natural n) λ o. bind_natural f g (outer_names_natural ns) λ os. return_natural f g (o ∷ os)

  -- The names of what is mapped.
  names_natural : {A B : Type 0} (h : A → B) (nameB : B → M) (nameA : A → N) → ((x : A) → nameB (h x) ≡ f (nameA x)) → (xs : List A)
      → Natural f g (place_outer_names O (map nameB (map h xs))) (place_outer_names O' (map nameA xs))
  names_natural h nameB nameA e xs =
      subst (λ (ns : List M). Natural f g (place_outer_names O ns) (place_outer_names O' (map nameA xs))) (sym (renamed xs)) (outer_names_natural (map nameA xs))
    where
      renamed : (xs : List _) → map nameB (map h xs) ≡ map f (map nameA xs)
      renamed [] = refl
      renamed (x ∷ xs) = λ i. e x i ∷ renamed xs i

  buffer_parts_natural : (sm5 : Bool) (bs : List (CBufferDef N D)) → Natural f g (place_buffer_parts O sm5 (map (map_buffer f g) bs)) (place_buffer_parts O' sm5 bs)
  unfolding place_buffer_parts map_buffer
  buffer_parts_natural sm5 bs =
      bind_natural f g (names_natural (map_buffer f g) (λ b. b.name) (λ b. b.name) (λ b. refl) bs) λ names. bind_natural f g
      (sections_natural sm5 bs) λ sections. return_natural f g (zip names sections)

  buffers_natural : (sm5 : Bool) (bs : List (CBufferDef N D)) → Natural f g (place_buffers O sm5 (map (map_buffer f g) bs)) (place_buffers O' sm5 bs)
  unfolding place_buffers map_buffer buffer_words_in_chunk
  buffers_natural sm5 [] = return_natural f g (0, [])
  buffers_natural sm5 (b ∷ bs) =
      bind_natural f g (pad_natural f g) λ start.
      bind_natural f g
      (ahead_natural f g (ap (λ (n : ℕ). n * buffer_size) (length-map (b ∷ bs) (map_buffer f g)))
      (rows_map buffer_words_in_chunk buffer_words_in_chunk (map_buffer f g) (λ c o. ap
      (λ (n : ℕ). o.0 ∷ n ∷ o.1.start ∷ c.size ∷ c.flags ∷ c.cb_type ∷ []) (length-map c.variables (map_variable f g))) (b ∷ bs))
      (buffer_parts_natural sm5 (b ∷ bs))) λ sections.
      return_natural f g (start, sections)

  body_natural : (r : ResourceDef N D) → Natural f g (place_body O (map_def f g r)) (place_body O' r)
  unfolding place_body map_def map_binding binding_words_in_chunk
  body_natural r =
      bind_natural f g
      (ahead_natural f g (ap (λ (n : ℕ). n * binding_size (is_wide r.rd11)) (length-map r.bindings (map_binding f)))
      (rows_map (binding_words_in_chunk (is_wide r.rd11)) (binding_words_in_chunk (is_wide r.rd11)) (map_binding f) (λ b o. refl) r.bindings)
      (names_natural (map_binding f) (λ b. b.name) (λ b. b.name) (λ b. refl) r.bindings)) λ _.
      bind_natural f g (buffers_natural (is_sm5 r.rd11) r.constant_buffers) λ buffers. bind_natural f g (inner_name_natural r.creator)
      λ creator. bind_natural f g (pad_natural f g) λ _.
      return_natural f g (record { buffers = buffers.0; sections = buffers.1; creator = creator })

  header_words_map : (r : ResourceDef N D) (o : BodyOffsets) → header_words_in_chunk (map_def f g r) o ≡ header_words_in_chunk r o
  unfolding header_words_in_chunk map_def
  header_words_map r o =
      let p = length-map r.constant_buffers (map_buffer f g) in
      let q = length-map r.bindings (map_binding f) in
      λ i. p i ∷ o.buffers ∷ q i ∷ 4 * header_word_count (is_sm5 r.rd11) ∷ r.target_version ∷ r.compile_flags ∷ o.creator ∷ rd11_words r.rd11

  chunk_natural : (r : ResourceDef N D) → Natural f g (place_chunk O (map_def f g r)) (place_chunk O' r)
  unfolding place_chunk map_def
  chunk_natural r = ahead_natural f g refl (header_words_map r) (body_natural r)

  -- The layout of what names and defaults stand for is theirs, mapped.
  pub layout_natural : (r : ResourceDef N D) → layout O (map_def f g r) ≡ map_placed f g (layout (through f g O) r)
  unfolding layout
  layout_natural r = (chunk_natural r).runs 0 (pools [] [] [] [] [])

-- Places or numbers that stand for bytes are written as the bytes are.
fill_map : {N D : Type 0} (f : N → Bytes) (g : D → Bytes) (cs : List (Cell N D)) → map fill (map (map_cell f g) cs) ≡ map (fill_through f g) cs
unfolding fill map_cell fill_through
fill_map f g [] = refl
fill_map f g (c ∷ cs) =
    let q = fill_map f g cs in
    λ i. one c i ∷ q i
  where
    one : (c : Cell _ _) → fill (map_cell f g c) ≡ fill_through f g c
    one (byte b) = refl
    one (name_byte n j) = refl
    one (default_byte d j) = refl

pub canonical_through : {N D : Type 0} (f : N → Bytes) (g : D → Bytes) (r : ResourceDef N D)
    → canonical (map_def f g r) ≡ map (fill_through f g) (layout (through f g bytes_facts) r).cells
unfolding canonical
canonical_through f g r = ap (λ p. map fill p.cells) (layout_natural f g bytes_facts r) ∙ fill_map f g (layout (through f g bytes_facts) r).cells
