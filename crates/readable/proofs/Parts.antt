-- The tests of a reflection's contents are tests of its records, part by part: a text is looked at in its buffer and by its bytes where its record is, and
-- other names leave the counts. By induction on each table's records.
use Rattle.std.specs.Prelude.{Option, Some}
use mathlib.Core.Path.{◌≡◌, refl, sym, ap, ◌∙◌}
use mathlib.Core.Bool.{Bool, true, false, ◌&&◌, ◌||◌, and-true, and_assoc}
use mathlib.Core.List.{List, [], ◌∷◌, ◌++◌, map}
use lib.Dec.{eqb, leb, eqb-suc-zero}
use lib.ListN.{length, drop, length-map, length-drop}
use Rattle.reflection.specs.Limits.{binding_room, buffer_room, variable_room, type_room}
use Rattle.reflection.specs.declared.Text.{Text}
use Rattle.reflection.specs.declared.CBufferDef.{CBufferDef as BufferRecord}
use Rattle.reflection.specs.declared.CBufferVariable.{CBufferVariable as VariableRecord}
use Rattle.reflection.specs.Reflection.{TypeDesc, CBufferVariable, CBufferDef, ResourceBinding, ResourceDef, is_sm5, is_wide, map_type, map_binding}
use Rattle.reflection.specs.Reflection.{map_variable, map_buffer, map_def}
use Rattle.tables.specs.Nodes.{Node, ◌>>=◌, type_from_nodes, type_levels}
use Rattle.reflection.specs.Reflection.{all_variables}
use Rattle.tables.specs.Decode.{guard, variable_from_table, buffer_from_table, variables_from, buffers_from}
use Rattle.reflection.specs.Texts.{in_place, text_bytes}
use Rattle.reflection.specs.Contents.{Bytes, contents, type_names, variable_names, outer_names, inner_names, defaults_of}
use Rattle.readable.specs.Readable.{every, name_readable, default_readable, zero_unless, version_readable, binding_readable, type_readable}
use Rattle.readable.specs.Readable.{variable_readable, node_count, room_kept, readable_contents, texts_in_place}
use Rattle.readable.specs.Checks.{passes, name_checked, default_checked, buffers_take, variable_checked, variables_take}
use Rattle.readable.proofs.Bools.{tests-in-order, holds_check, holds_and, holds_same, holds_then, every_append, every_map, every_both}
use Rattle.readable.proofs.TypeTests.{type_held, passed, type_held_lem, type_left_lem, length_held}
use Rattle.readable.proofs.Counts.{map_node_count, variables_map}

-- The tests of a variable by its contents, and of its names and default in their buffers, taken together for each of its parts.
of_variable : (place tplaces places dplace dplaces read treads reads dread dread' slots tread others type all : Bool)
    → (dplace && dread) ≡ (dplace && dread') → (tplaces && (treads && tread)) ≡ type → (places && (dplaces && (reads && others))) ≡ all
    → ((place && (tplaces && places)) && ((dplace && dplaces) && ((read && (treads && reads)) && ((dread && (slots && tread)) && others))))
    ≡ ((((place && read) && ((dplace && dread') && slots)) && type) && all)
of_variable place tplaces places dplace dplaces read treads reads dread dread' slots tread others type all default of_type of-all =
    let together : ((place && (tplaces && places)) && ((dplace && dplaces) && ((read && (treads && reads)) && ((dread && (slots && tread)) && others))))
    ≡ ((((place && read) && ((dplace && dread) && slots)) && (tplaces && (treads && tread))) && (places && (dplaces && (reads && others)))) = simp
    tests-in-order in
    together ∙ (λ i. (((place && read) && (default i && slots)) && of_type i) && of-all i)

-- The tests of a reflection, taken together for each of its tables.
of_parts : (bp cp vp rp dp version br cr vr rr bread vread room rt bt ct vt : Bool)
    → (rp && rr) ≡ rt → ((bp && br) && bread) ≡ bt → (cp && cr) ≡ ct → (vp && (dp && (vr && vread))) ≡ vt
    → (((bp && cp) && ((vp && (rp && true)) && dp)) && (version && ((br && cr) && ((vr && (rr && true)) && (bread && (vread && room))))))
    ≡ (((version && rt) && bt) && (ct && (vt && room)))
of_parts bp cp vp rp dp version br cr vr rr bread vread room rt bt ct vt of-root of_bindings of_buffers of_variables =
    let together : (((bp && cp) && ((vp && (rp && true)) && dp)) && (version && ((br && cr) && ((vr && (rr && true)) && (bread && (vread && room))))))
    ≡ (((version && (rp && rr)) && ((bp && br) && bread)) && ((cp && cr) && ((vp && (dp && (vr && vread))) && room))) = simp (and-true, tests-in-order) in
    together ∙ (λ i. ((version && of-root i) && of_bindings i) && (of_buffers i && (of_variables i && room)))

module _ (chunk edits : Bytes) where
  abbrev bytes : Text → Bytes
  bytes = text_bytes chunk edits

  -- The buffers: those that are built have the names of their records.
  pub buffers_take_lem : (cs : List BufferRecord) (vs : List (CBufferVariable Text Text))
      → passes (λ bs. every (name_checked chunk edits) (map (λ b. b.name) bs)) (buffers_from cs vs) ≡ buffers_take chunk edits cs (length vs)
  unfolding buffers_from buffers_take buffer_from_table every
  buffers_take_lem [] [] = refl
  buffers_take_lem [] (v ∷ vs) = sym (eqb-suc-zero (length vs))
  buffers_take_lem (c ∷ cs) vs =
      let n = c.variable_count in
      let named : List (CBufferDef Text Text) → Bool = λ bs. every (name_checked chunk edits) (map (λ b. b.name) bs) in
      holds_check named (leb n (length vs)) _
      ∙ ap (λ b. leb n (length vs) && b) (holds_then named (buffers_from cs (drop n vs)) _ ∙ holds_and (name_checked chunk edits c.name) named
      (buffers_from cs (drop n vs)) ∙ ap (λ b. name_checked chunk edits c.name && b) (buffers_take_lem cs (drop n vs)))
      ∙ rw (length-drop n vs) (simp tests-in-order)

  module _ (sm5 : Bool) where
    -- A variable with its type.
    unfoldable pub typed_held : CBufferVariable Text Text → Bool
    typed_held v =
        (name_checked chunk edits v.name
        && (default_checked chunk edits v.size v.default-value && zero_unless sm5
        (v.texture_start ∷ v.texture_size ∷ v.sampler_start ∷ v.sampler_size ∷ [])))
        && type_held chunk edits sm5 v.var_type type_levels

    one_variable : (v : VariableRecord) (t : TypeDesc Text) (left : List (Node Text)) (others : Option (List (CBufferVariable Text Text)))
        (rest : List (Node Text) → Bool)
        → passes (every typed_held) others ≡ rest left
        → passes (every typed_held) (others >>= λ typed. Some (variable_from_table v t ∷ typed))
        ≡ (variable_checked chunk edits sm5 v && passes rest (guard (type_held chunk edits sm5 t type_levels && true) >>= λ _. Some left))
    unfolding every typed_held variable_checked variable_from_table
    one_variable v t left others rest e =
        holds_then (every typed_held) others _
        ∙ holds_and (typed_held (variable_from_table v t)) (every typed_held) others
        ∙ ap (λ b. typed_held (variable_from_table v t) && b) e
        ∙ and_assoc (variable_checked chunk edits sm5 v) (type_held chunk edits sm5 t type_levels) (rest left)
        ∙ ap (λ b. variable_checked chunk edits sm5 v && b)
        (ap (λ b. b && rest left) (sym (and-true (type_held chunk edits sm5 t type_levels)))
        ∙ sym (holds_check rest (type_held chunk edits sm5 t type_levels && true) (λ _. Some left)))

    pub variables_take_lem : (vs : List VariableRecord) (xs : List (Node Text))
        → passes (every typed_held) (variables_from vs xs) ≡ variables_take chunk edits sm5 vs xs
    unfolding variables_from variables_take every
    variables_take_lem [] [] = refl
    variables_take_lem [] (x ∷ xs) = refl
    variables_take_lem (v ∷ vs) xs =
        let built = type_from_nodes type_levels xs in
        let own = variable_checked chunk edits sm5 v in
        let rest = variables_take chunk edits sm5 vs in
        holds_then (every typed_held) built _
        ∙ holds_same _ (λ t. own && passes rest (passed chunk edits sm5 false type_levels t)) built
        (λ t e. one_variable v t.type t.left (variables_from vs t.left) rest (variables_take_lem vs t.left))
        ∙ holds_and own (λ t. passes rest (passed chunk edits sm5 false type_levels t)) built
        ∙ ap (λ b. own && b) (sym (holds_then rest built (passed chunk edits sm5 false type_levels))
        ∙ ap (passes rest) (sym (type_left_lem chunk edits sm5 type_levels false xs)))

  -- The tests of the variables by their contents are those of the variables.
  module _ (sm5 : Bool) where
    abbrev var_tests : List (CBufferVariable Text Text) → Bool
    var_tests vs =
        every (in_place chunk edits) (variable_names vs)
        && (every (in_place chunk edits) (map (λ v. v.default-value) vs)
        && (every name_readable (variable_names (map (map_variable bytes bytes) vs)) && every (variable_readable sm5) (map (map_variable bytes bytes) vs)))

    pub variables_held : (vs : List (CBufferVariable Text Text)) → var_tests vs ≡ every (typed_held sm5) vs
    unfolding variable_names every variable_readable map_variable typed_held name_checked default_checked default_readable
    variables_held [] = refl
    variables_held (v ∷ vs) =
        rw (
          every_append (in_place chunk edits) (type_names v.var_type) (variable_names vs),
          every_append name_readable (type_names (map_type bytes v.var_type)) (variable_names (map (map_variable bytes bytes) vs)),
        )
        (of_variable (in_place chunk edits v.name) (every (in_place chunk edits) (type_names v.var_type)) (every (in_place chunk edits) (variable_names vs))
        (in_place chunk edits v.default-value) (every (in_place chunk edits) (map (λ v. v.default-value) vs))
        (name_readable (bytes v.name)) (every name_readable (type_names (map_type bytes v.var_type)))
        (every name_readable (variable_names (map (map_variable bytes bytes) vs)))
        (default_readable v.size (bytes v.default-value)) (eqb v.default-value.length 0 || eqb v.default-value.length v.size)
        (zero_unless sm5 (v.texture_start ∷ v.texture_size ∷ v.sampler_start ∷ v.sampler_size ∷ []))
        (type_readable sm5 (map_type bytes v.var_type) type_levels)
        (every (variable_readable sm5) (map (map_variable bytes bytes) vs))
        (type_held chunk edits sm5 v.var_type type_levels)
        (every (typed_held sm5) vs)
        (length_held chunk edits v.default-value (λ n. eqb n 0 || eqb n v.size))
        (type_held_lem chunk edits sm5 v.var_type type_levels)
        (variables_held vs))

  -- Names by contents and in their buffers.
  pub names_held : (ns : List Text) → (every (in_place chunk edits) ns && every name_readable (map bytes ns)) ≡ every (name_checked chunk edits) ns
  unfolding name_checked
  names_held ns = ap (λ b. every (in_place chunk edits) ns && b) (every_map name_readable bytes ns) ∙ every_both (in_place chunk edits)
      (λ n. name_readable (bytes n)) ns

  name_held : (t : Text) → (in_place chunk edits t && name_readable (bytes t)) ≡ name_checked chunk edits t
  unfolding name_checked
  name_held t = refl

  -- A binding.
  abbrev pub binding_tests : Bool → ResourceBinding Text → Bool
  binding_tests wide b = name_checked chunk edits b.name && binding_readable wide b

  map-map : {A B C : Type 0} (f : A → B) (g : B → C) (xs : List A) → map g (map f xs) ≡ map (λ x. g (f x)) xs
  map-map f g [] = refl
  map-map f g (x ∷ xs) = ap (λ ys. g (f x) ∷ ys) (map-map f g xs)

  -- What is tested of a reflection that was decoded.
  abbrev pub tests : ResourceDef Text Text → Bool
  tests r = texts_in_place chunk edits r && readable_contents (contents chunk edits r)

  -- The same, part by part.
  abbrev pub tests_by_part : ResourceDef Text Text → Bool
  tests_by_part r =
      ((version_readable r.target_version r.rd11 && name_checked chunk edits r.creator) && every (binding_tests (is_wide r.rd11)) r.bindings)
      && (every (name_checked chunk edits) (map (λ b. b.name) r.constant_buffers)
      && (every (typed_held (is_sm5 r.rd11)) (all_variables r.constant_buffers) && room_kept r))

  binding_names : (bs : List (ResourceBinding Text)) → map (λ b. b.name) (map (map_binding bytes) bs) ≡ map bytes (map (λ b. b.name) bs)
  unfolding map_binding
  binding_names bs = map-map (map_binding bytes) (λ b. b.name) bs ∙ sym (map-map (λ (b : ResourceBinding Text). b.name) bytes bs)

  buffer_names : (bs : List (CBufferDef Text Text)) → map (λ b. b.name) (map (map_buffer bytes bytes) bs) ≡ map bytes (map (λ b. b.name) bs)
  unfolding map_buffer
  buffer_names bs = map-map (map_buffer bytes bytes) (λ b. b.name) bs ∙ sym (map-map (λ (b : CBufferDef Text Text). b.name) bytes bs)

  binding_codes : (wide : Bool) (bs : List (ResourceBinding Text)) → every (binding_readable wide) (map (map_binding bytes) bs) ≡ every (binding_readable wide) bs
  unfolding map_binding binding_readable
  binding_codes wide bs = every_map (binding_readable wide) (map_binding bytes) bs

  bindings_tested : (wide : Bool) (bs : List (ResourceBinding Text))
      → ((every (in_place chunk edits) (map (λ b. b.name) bs) && every name_readable (map bytes (map (λ b. b.name) bs))) && every
      (binding_readable wide) bs) ≡ every (binding_tests wide) bs
  bindings_tested wide bs =
      ap (λ b. b && every (binding_readable wide) bs) (names_held (map (λ b. b.name) bs) ∙ every_map (name_checked chunk edits)
      (λ (b : ResourceBinding Text). b.name) bs)
      ∙ every_both (λ b. name_checked chunk edits b.name) (binding_readable wide) bs

  room_kept_lem : (r : ResourceDef Text Text) → room_kept (contents chunk edits r) ≡ room_kept r
  unfolding room_kept contents map_def
  room_kept_lem r =
      let variables : all_variables (map (map_buffer bytes bytes) r.constant_buffers) ≡ map (map_variable bytes bytes)
      (all_variables r.constant_buffers) = variables_map bytes bytes r.constant_buffers in
      let counted : length (all_variables (map (map_buffer bytes bytes) r.constant_buffers)) ≡ length (all_variables r.constant_buffers) = ap
      length variables ∙ length-map (all_variables r.constant_buffers) (map_variable bytes bytes) in
      let nodes : node_count (all_variables (map (map_buffer bytes bytes) r.constant_buffers)) ≡ node_count (all_variables r.constant_buffers) = ap
      node_count variables ∙ map_node_count bytes bytes (all_variables r.constant_buffers) in
      (λ i. leb (length-map r.bindings (map_binding bytes) i) binding_room &&
      (leb (length-map r.constant_buffers (map_buffer bytes bytes) i) buffer_room && (leb (counted i) variable_room && leb (nodes i) type_room)))

  pub tests_by_part_lem : (r : ResourceDef Text Text) → tests r ≡ tests_by_part r
  unfolding texts_in_place readable_contents contents map_def outer_names inner_names defaults_of every
  tests_by_part_lem r =
      let bs = r.bindings in
      let cs = r.constant_buffers in
      let vs = all_variables cs in
      let bnames = map (λ (b : ResourceBinding Text). b.name) bs in
      let cnames = map (λ (b : CBufferDef Text Text). b.name) cs in
      let wide = is_wide r.rd11 in
      let sm5 = is_sm5 r.rd11 in
      (λ i. (every_append (in_place chunk edits) bnames cnames i
      && (every_append (in_place chunk edits) (variable_names vs) (r.creator ∷ []) i && every (in_place chunk edits) (map (λ v. v.default-value) vs)))
      && (version_readable r.target_version r.rd11
      && (every name_readable (binding_names bs i ++ buffer_names cs i)
      && (every name_readable (variable_names (variables_map bytes bytes cs i) ++ (bytes r.creator ∷ []))
      && (binding_codes wide bs i && (every (variable_readable sm5) (variables_map bytes bytes cs i) && room_kept_lem r i))))))
      ∙ (λ i. ((every (in_place chunk edits) bnames && every (in_place chunk edits) cnames)
      && ((every (in_place chunk edits) (variable_names vs) && (in_place chunk edits r.creator && true)) && every (in_place chunk edits)
      (map (λ v. v.default-value) vs)))
      && (version_readable r.target_version r.rd11
      && (every_append name_readable (map bytes bnames) (map bytes cnames) i
      && (every_append name_readable (variable_names (map (map_variable bytes bytes) vs)) (bytes r.creator ∷ []) i
      && (every (binding_readable wide) bs && (every (variable_readable sm5) (map (map_variable bytes bytes) vs) && room_kept r))))))
      ∙ of_parts (every (in_place chunk edits) bnames) (every (in_place chunk edits) cnames) (every (in_place chunk edits) (variable_names vs))
      (in_place chunk edits r.creator) (every (in_place chunk edits) (map (λ v. v.default-value) vs)) (version_readable r.target_version r.rd11)
      (every name_readable (map bytes bnames)) (every name_readable (map bytes cnames)) (every name_readable (variable_names (map (map_variable bytes bytes) vs)))
      (name_readable (bytes r.creator)) (every (binding_readable wide) bs) (every (variable_readable sm5) (map (map_variable bytes bytes) vs)) (room_kept r)
      (name_checked chunk edits r.creator) (every (binding_tests wide) bs) (every (name_checked chunk edits) cnames) (every (typed_held sm5) vs)
      (name_held r.creator) (bindings_tested wide bs) (names_held cnames) (variables_held sm5 vs)
