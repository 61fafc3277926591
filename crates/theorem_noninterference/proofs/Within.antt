-- Every cell of the layout that holds a byte of a default lies in the place of a default, as the layout's result has it (`default_places`): such cells are
-- written by the step for a default alone, and the offset that this step hands back is where they begin.
use Rattle.std.specs.Prelude.{Option, None, Some}
use mathlib.Core.Path.{◌≡◌, refl, ap, sym, ◌∙◌, subst}
use mathlib.Core.Logic.{inl, inr}
use mathlib.Core.List.{List, [], ◌∷◌, ◌++◌, map, map-append, append-nil}
use mathlib.Core.Bool.{Bool, true}
use Prim.Native.Nat.{ℕ, zero, suc, ◌+◌, ◌*◌, ◌≤◌}
use native.Mathlib.Omega.{arith}
use native.Mathlib.Nat.{add-zero}
use lib.Dec.{eqb}
use lib.ListN.{length, length-map}
use Rattle.reflection.specs.declared.Text.{Text}
use Rattle.reflection.specs.Reflection.{CBufferVariable, CBufferDef, ResourceDef, is_sm5, is_wide}
use Rattle.reflection.specs.Texts.{in_chunk}
use Rattle.reflection.specs.Reflection.{all_variables}
use Rattle.reflection.specs.Contents.{defaults_of}
use Rattle.write_spec.specs.Step.{Cell, default_byte, TextFacts, Pools, pools, WriteStep, ◌>>=◌, return, append, add_to_pool, pad, word_cells}
use Rattle.write_spec.specs.Step.{reserve}
use Rattle.write_spec.specs.Step.{found, interned, unless_empty, add_default, cells_of}
use Rattle.write_spec.specs.Records.{VariableOffsets, variable_words_in_chunk, variable_size, Section, buffer_words_in_chunk, buffer_size}
use Rattle.write_spec.specs.Records.{binding_words_in_chunk, binding_size, header_words_in_chunk, header_word_count, BodyOffsets, rows}
use Rattle.write_spec.specs.Layout.{zip, place_inner_name, place_default, place_type, place_variable, place_variables, place_section, place_sections}
use Rattle.write_spec.specs.Layout.{place_outer_names, place_buffer_parts, place_buffers, place_body, place_chunk, layout}
use Rattle.write_spec.proofs.Sizes.{word_cells_length, rows_length, variable_words_length, buffer_words_length, header_words_length, variables_length}
use Rattle.write_spec.proofs.Sizes.{outer_names_length, section_length, buffer_parts_length}
use Rattle.theorem_round_trip.specs.RoundTrip.{places_of, section_offsets, default_places}
use Rattle.theorem_noninterference.specs.Noninterference.{Covered}
use Rattle.theorem_noninterference.proofs.Plain.{OfDefault, Plain, PlainStep, plain_words, plain_pad, plain_reserve, plain_inner_name}
use Rattle.theorem_noninterference.proofs.Plain.{plain_outer_names, plain_type}

-- A byte in one of two lists of places is in both together, and the other way round.
left : (p : ℕ) (P Q : List Text) → Covered p P → Covered p (P ++ Q)
left p [] Q h = absurd h
left p (x ∷ P) Q (inl h) = inl h
left p (x ∷ P) Q (inr h) = inr (left p P Q h)

right : (p : ℕ) (P Q : List Text) → Covered p Q → Covered p (P ++ Q)
right p [] Q h = h
right p (x ∷ P) Q h = inr (right p P Q h)

either : (p : ℕ) (P Q R : List Text) → (Covered p P → Covered p R) → (Covered p Q → Covered p R) → Covered p (P ++ Q) → Covered p R
either p [] Q R f g h = g h
either p (x ∷ P) Q R f g (inl h) = f (inl h)
either p (x ∷ P) Q R f g (inr h) = either p P Q R (λ c. f (inr c)) g h

-- From `at` on, each cell of a default lies in one of the places.
abbrev pub Within : {N D : Type 0} → ℕ → List (Cell N D) → List Text → Type 0
Within at [] P = Unit {0}
Within at (c ∷ cs) P = (OfDefault c → Covered at P) × Within (suc at) cs P

within_append : {N D : Type 0} (P : List Text) (at : ℕ) (xs ys : List (Cell N D)) → Within at xs P → Within (at + length xs) ys P → Within at (xs ++ ys) P
within_append P at [] ys h k = subst (λ n. Within n ys P) (add-zero at) k
within_append P at (x ∷ xs) ys h k = (
  h.0,
  within_append P (suc at) xs ys h.1 (subst (λ n. Within n ys P) (let e : at + suc (length xs) ≡ suc at + length xs = omega arith in
      e) k),
)

within_more : {N D : Type 0} (P P' : List Text) → ((p : ℕ) → Covered p P → Covered p P') → (at : ℕ) (cs : List (Cell N D)) → Within at cs P → Within at cs P'
within_more P P' f at [] h = tt
within_more P P' f at (c ∷ cs) h = ((λ d. f at (h.0 d)), within_more P P' f (suc at) cs h.1)

plain_within : {N D : Type 0} (P : List Text) (at : ℕ) (cs : List (Cell N D)) → Plain cs → Within at cs P
plain_within P at [] h = tt
plain_within P at (c ∷ cs) h = ((λ d. absurd (h.0 d)), plain_within P (suc at) cs h.1)

-- The cells of a text lie in its place.
cells_within_place : {N D : Type 0} (P : List Text) (o k n at : ℕ) (cell : ℕ → Cell N D) → o ≤ at → at + n ≤ o + k
    → Within at (cells_of n cell) (in_chunk o k ∷ P)
unfolding cells_of
cells_within_place P o k zero at cell low high = tt
cells_within_place P o k (suc n) at cell low high =
    ((λ d. inl (low, omega arith)), cells_within_place P o k n (suc at) (λ j. cell (suc j)) (omega arith) (omega arith))

-- A step before which the places P were known, and after which `places result` are: its cells of defaults lie in these, and no place is lost.
record InPlaces {N D A : Type 0} (m : WriteStep N D A) (P : List Text) (places : A → List Text) : Type 0 where
  within : (at : ℕ) (ps : Pools N D) → Within at (m at ps).cells (places (m at ps).result)
  kept : (at : ℕ) (ps : Pools N D) (p : ℕ) → Covered p P → Covered p (places (m at ps).result)

module _ {N D : Type 0} where
  bind_in_places : {A B : Type 0} (m : WriteStep N D A) (k : A → WriteStep N D B) (P : List Text) (places : A → List Text) (after : B → List Text)
      → InPlaces m P places → ((at₀ : ℕ) (ps₀ : Pools N D) → InPlaces (k (m at₀ ps₀).result) (places (m at₀ ps₀).result) after) → InPlaces (m >>= k) P after
  unfolding ◌>>=◌
  bind_in_places m k P places after h e = record {
    within = λ at ps.
        within_append _ at (m at ps).cells _ (within_more _ _ ((e at ps).kept (at + length (m at ps).cells) (m at ps).pools_after) at
        (m at ps).cells (h.within at ps))
        ((e at ps).within (at + length (m at ps).cells) (m at ps).pools_after);
    kept = λ at ps p c. (e at ps).kept (at + length (m at ps).cells) (m at ps).pools_after p (h.kept at ps p c);
  }

  return_in_places : {A : Type 0} (a : A) (P : List Text) (places : A → List Text) → ((p : ℕ) → Covered p P → Covered p (places a))
      → InPlaces {N = N} {D = D} (return a) P places
  unfolding return
  return_in_places a P places h = record { within = λ at ps. tt; kept = λ at ps. h }

  plain_in_places : {A : Type 0} (m : WriteStep N D A) (P : List Text) → PlainStep m → InPlaces m P (λ _. P)
  plain_in_places m P h = record { within = λ at ps. plain_within P at (m at ps).cells (h.plain at ps); kept = λ at ps p c. c }

  -- Words reserve of a step, as many as were left for them.
  ahead_in_places : {A : Type 0} (n : ℕ) (words : A → List ℕ) (m : WriteStep N D A) (P : List Text) (places : A → List Text)
      → ((at : ℕ) (ps : Pools N D) → length (words (m at ps).result) ≡ n)
      → InPlaces m P places → InPlaces (reserve n words m) P places
  unfolding reserve
  ahead_in_places n words m P places sized h = record { within = go; kept = λ at ps. h.kept (at + 4 * n) ps }
    where
      go : (at : ℕ) (ps : Pools N D) → Within at (reserve n words m at ps).cells (places (reserve n words m at ps).result)
      go at ps =
          let q = m (at + 4 * n) ps in
          let ws : List (Cell N D) = word_cells (words q.result) in
          let e : length ws ≡ 4 * n = word_cells_length N D (words q.result) ∙ ap (λ (k : ℕ). 4 * k) (sized (at + 4 * n) ps) in
          within_append _ at ws _ (plain_within _ at ws (plain_words N D (words q.result)))
          (subst (λ (k : ℕ). Within (at + k) q.cells (places q.result)) (sym e) (h.within (at + 4 * n) ps))

  unless_empty_in_places : (P : List Text) (places : ℕ → List Text) (n : ℕ) (m : WriteStep N D ℕ) → ((p : ℕ) → Covered p P → Covered p (places 0))
      → InPlaces m P places → InPlaces (unless_empty n m) P places
  unfolding unless_empty
  unless_empty_in_places P places zero m e h = return_in_places 0 P places e
  unless_empty_in_places P places (suc n) m e h = h

  once_in_places : (P : List Text) (places : ℕ → List Text) (look : Pools N D → Option ℕ) (m : WriteStep N D ℕ)
      → ((o p : ℕ) → Covered p P → Covered p (places o)) → InPlaces m P places → InPlaces (interned true look m) P places
  unfolding interned
  once_in_places P places look m e h = record { within = λ at ps. in_one (look ps) at ps; kept = λ at ps. none_lost (look ps) at ps }
    where
      in_one : (l : Option ℕ) (at : ℕ) (ps : Pools N D) → Within at (found l m at ps).cells (places (found l m at ps).result)
      in_one None at ps = h.within at ps
      in_one (Some o) at ps = tt

      none_lost : (l : Option ℕ) (at : ℕ) (ps : Pools N D) (p : ℕ) → Covered p P → Covered p (places (found l m at ps).result)
      none_lost None at ps = h.kept at ps
      none_lost (Some o) at ps = e o

  append_in_places : (P : List Text) (n : ℕ) (cell : ℕ → Cell N D) → InPlaces (append (cells_of n cell)) P (λ o. in_chunk o n ∷ P)
  unfolding append
  append_in_places P n cell = record { within = λ at ps. cells_within_place P at n n at cell (omega arith) (omega arith); kept = λ at ps p c. inr c }

  remember_in_places : (places : ℕ → List Text) (add : ℕ → Pools N D → Pools N D) (o : ℕ) → InPlaces (add_to_pool add o) (places o) places
  unfolding add_to_pool
  remember_in_places places add o = record { within = λ at ps. tt; kept = λ at ps p c. c }

module _ {N D : Type 0} (O : TextFacts N D) where
  default_in_places : (P : List Text) (d : D) → InPlaces (place_default O d) P (λ o. in_chunk o (O.default_length d) ∷ P)
  unfolding place_default
  default_in_places P d =
      unless_empty_in_places P places (O.default_length d) _ (λ p c. inr c)
      (once_in_places P places _ _ (λ o p c. inr c)
      (bind_in_places pad _ P (λ _. P) places (plain_in_places pad P plain_pad) λ at₀ ps₀.
      bind_in_places (append (cells_of (O.default_length d) (default_byte d))) _ P places places
      (append_in_places P (O.default_length d) (default_byte d)) λ at₁ ps₁. remember_in_places places (add_default d) _))
    where
      places : ℕ → List Text
      places o = in_chunk o (O.default_length d) ∷ P

  variable_in_places : (P : List Text) (sm5 share : Bool) (v : CBufferVariable N D)
      → InPlaces (place_variable O sm5 share v) P (λ o. in_chunk o.default (O.default_length v.default-value) ∷ P)
  unfolding place_variable
  variable_in_places P sm5 share v =
      bind_in_places (place_inner_name O v.name) _ P (λ _. P) places (plain_in_places (place_inner_name O v.name) P (plain_inner_name O v.name)) λ at₀ ps₀.
      bind_in_places (place_type O sm5 share v.var_type) _ P (λ _. P) places
      (plain_in_places (place_type O sm5 share v.var_type) P (plain_type O sm5 share v.var_type)) λ at₁ ps₁.
      bind_in_places (place_default O v.default-value) _ P (λ o. in_chunk o (O.default_length v.default-value) ∷ P) places
      (default_in_places P v.default-value) λ at₂ ps₂.
      return_in_places _ (in_chunk (place_default O v.default-value at₂ ps₂).result (O.default_length v.default-value) ∷ P) places (λ p c. c)
    where
      places : VariableOffsets → List Text
      places o = in_chunk o.default (O.default_length v.default-value) ∷ P

  -- The places of a buffer's defaults.
  abbrev variable_places : List (CBufferVariable N D) → List VariableOffsets → List Text
  variable_places vs os = places_of O.default_length os (map (λ v. v.default-value) vs)

  variables_in_places : (P : List Text) (sm5 share : Bool) (vs : List (CBufferVariable N D))
      → InPlaces (place_variables O sm5 share vs) P (λ os. variable_places vs os ++ P)
  unfolding place_variables places_of
  variables_in_places P sm5 share [] = return_in_places [] P (λ os. variable_places [] os ++ P) (λ p c. c)
  variables_in_places P sm5 share (v ∷ vs) =
      bind_in_places (place_variable O sm5 share v) _ P (λ o. in_chunk o.default (O.default_length v.default-value) ∷ P)
      (λ os. variable_places (v ∷ vs) os ++ P) (variable_in_places P sm5 share v) λ at₀ ps₀.
      let q : Text = in_chunk (place_variable O sm5 share v at₀ ps₀).result.default (O.default_length v.default-value) in
      bind_in_places (place_variables O sm5 share vs) _ (q ∷ P) (λ os. variable_places vs os ++ (q ∷ P)) (λ os. variable_places (v ∷ vs) os ++ P)
      (variables_in_places (q ∷ P) sm5 share vs) λ at₁ ps₁.
      let os = (place_variables O sm5 share vs at₁ ps₁).result in
      return_in_places _ (variable_places vs os ++ (q ∷ P)) (λ os. variable_places (v ∷ vs) os ++ P)
      (λ p c. either p (variable_places vs os) (q ∷ P) (q ∷ (variable_places vs os ++ P)) (λ h. inr (left p (variable_places vs os) P h)) (first p os q) c)
    where
      first : (p : ℕ) (os : List VariableOffsets) (q : Text) → Covered p (q ∷ P) → Covered p (q ∷ (variable_places vs os ++ P))
      first p os q (inl h) = inl h
      first p os q (inr h) = inr (right p (variable_places vs os) P h)

  section_in_places : (P : List Text) (sm5 : Bool) (b : CBufferDef N D)
      → InPlaces (place_section O sm5 b) P (λ s. variable_places b.variables s.offsets ++ P)
  unfolding place_section
  section_in_places P sm5 b =
      bind_in_places pad _ P (λ _. P) (λ s. variable_places b.variables s.offsets ++ P) (plain_in_places pad P plain_pad) λ at₀ ps₀.
      bind_in_places (reserve (length b.variables * variable_size sm5) (rows (variable_words_in_chunk sm5) b.variables)
      (place_variables O sm5 (eqb b.cb_type 0) b.variables)) _ P
      (λ os. variable_places b.variables os ++ P) (λ s. variable_places b.variables s.offsets ++ P)
      (ahead_in_places _ _ (place_variables O sm5 (eqb b.cb_type 0) b.variables) P (λ os. variable_places b.variables os ++ P)
      (λ at ps. rows_length (variable_words_in_chunk sm5) (variable_size sm5) (variable_words_length sm5) b.variables _
      (variables_length O sm5 (eqb b.cb_type 0) b.variables at ps))
      (variables_in_places P sm5 (eqb b.cb_type 0) b.variables)) λ at₁ ps₁.
      return_in_places _
      (variable_places b.variables (reserve (length b.variables * variable_size sm5) (rows (variable_words_in_chunk sm5) b.variables)
      (place_variables O sm5 (eqb b.cb_type 0) b.variables) at₁ ps₁).result ++ P)
      (λ s. variable_places b.variables s.offsets ++ P) (λ p c. c)

  -- The places of several buffers' defaults.
  unfoldable section_places : List (CBufferDef N D) → List Section → List Text
  section_places [] ss = []
  section_places (b ∷ bs) [] = []
  section_places (b ∷ bs) (s ∷ ss) = variable_places b.variables s.offsets ++ section_places bs ss

  sections_in_places : (P : List Text) (sm5 : Bool) (bs : List (CBufferDef N D)) → InPlaces (place_sections O sm5 bs) P (λ ss. section_places bs ss ++ P)
  unfolding place_sections section_places
  sections_in_places P sm5 [] = return_in_places [] P (λ ss. section_places [] ss ++ P) (λ p c. c)
  sections_in_places P sm5 (b ∷ bs) =
      bind_in_places (place_section O sm5 b) _ P (λ s. variable_places b.variables s.offsets ++ P) (λ ss. section_places (b ∷ bs) ss ++ P)
      (section_in_places P sm5 b) λ at₀ ps₀.
      let Q : List Text = variable_places b.variables (place_section O sm5 b at₀ ps₀).result.offsets in
      bind_in_places (place_sections O sm5 bs) _ (Q ++ P) (λ ss. section_places bs ss ++ (Q ++ P)) (λ ss. section_places (b ∷ bs) ss ++ P)
      (sections_in_places (Q ++ P) sm5 bs) λ at₁ ps₁.
      let S : List Text = section_places bs (place_sections O sm5 bs at₁ ps₁).result in
      return_in_places _ (S ++ (Q ++ P)) (λ ss. section_places (b ∷ bs) ss ++ P)
      (λ p c. either p S (Q ++ P) ((Q ++ S) ++ P) (λ h. left p (Q ++ S) P (right p Q S h))
      (λ h. either p Q P ((Q ++ S) ++ P) (λ k. left p (Q ++ S) P (left p Q S k)) (λ k. right p (Q ++ S) P k) h) c)

  -- Each section has an offset for each of its buffer's variables; so its places are next to one another among those of all buffers.
  unfoldable Sized : List (CBufferDef N D) → List Section → Type 0
  Sized [] [] = Unit {0}
  Sized [] (s ∷ ss) = ⊥
  Sized (b ∷ bs) [] = ⊥
  Sized (b ∷ bs) (s ∷ ss) = (length s.offsets ≡ length b.variables) × Sized bs ss

  sections_sized : (sm5 : Bool) (bs : List (CBufferDef N D)) (at : ℕ) (ps : Pools N D) → Sized bs (place_sections O sm5 bs at ps).result
  unfolding place_sections ◌>>=◌ return Sized
  sections_sized sm5 [] at ps = tt
  sections_sized sm5 (b ∷ bs) at ps = (section_length O sm5 b at ps, sections_sized sm5 bs _ _)

  places_append : (os os' : List VariableOffsets) (ds ds' : List D) → length os ≡ length ds
      → places_of O.default_length os ds ++ places_of O.default_length os' ds' ≡ places_of O.default_length (os ++ os') (ds ++ ds')
  unfolding places_of
  places_append [] os' [] ds' h = refl
  places_append [] os' (d ∷ ds) ds' h = absurd (omega arith)
  places_append (o ∷ os) os' [] ds' h = absurd (omega arith)
  places_append (o ∷ os) os' (d ∷ ds) ds' h = ap {B = List Text} (λ l. in_chunk o.default (O.default_length d) ∷ l)
      (places_append os os' ds ds' (omega arith))

  all_places : (bs : List (CBufferDef N D)) (ns : List ℕ) (ss : List Section) → length ns ≡ length bs → Sized bs ss
      → section_places bs ss ≡ variable_places (all_variables bs) (section_offsets (zip ns ss))
  unfolding section_places Sized zip section_offsets all_variables places_of
  all_places [] [] [] e h = refl
  all_places [] (n ∷ ns) [] e h = absurd (omega arith)
  all_places [] [] (s ∷ ss) e h = absurd h
  all_places [] (n ∷ ns) (s ∷ ss) e h = absurd h
  all_places (b ∷ bs) [] [] e h = absurd h
  all_places (b ∷ bs) (n ∷ ns) [] e h = absurd h
  all_places (b ∷ bs) [] (s ∷ ss) e h = absurd (omega arith)
  all_places (b ∷ bs) (n ∷ ns) (s ∷ ss) e h =
      ap (λ (l : List Text). variable_places b.variables s.offsets ++ l) (all_places bs ns ss (omega arith) h.1)
      ∙ places_append s.offsets (section_offsets (zip ns ss)) (map (λ v. v.default-value) b.variables)
      (map (λ v. v.default-value) (all_variables bs)) (h.0 ∙ sym (length-map b.variables (λ v. v.default-value)))
      ∙ ap (places_of O.default_length (s.offsets ++ section_offsets (zip ns ss))) (sym (map-append (λ v. v.default-value) b.variables (all_variables bs)))

  abbrev buffer_places : List (CBufferDef N D) → List (ℕ × Section) → List Text
  buffer_places bs os = variable_places (all_variables bs) (section_offsets os)

  buffer_parts_in_places : (sm5 : Bool) (bs : List (CBufferDef N D)) → InPlaces (place_buffer_parts O sm5 bs) [] (buffer_places bs)
  unfolding place_buffer_parts
  buffer_parts_in_places sm5 bs =
      bind_in_places (place_outer_names O (map (λ b. b.name) bs)) _ [] (λ _. []) (buffer_places bs)
      (plain_in_places (place_outer_names O (map (λ b. b.name) bs)) [] (plain_outer_names O _)) λ at₀ ps₀.
      let ns = (place_outer_names O (map (λ b. b.name) bs) at₀ ps₀).result in
      let named : length ns ≡ length bs = outer_names_length O (map (λ b. b.name) bs) at₀ ps₀ ∙ length-map bs (λ b. b.name) in
      bind_in_places (place_sections O sm5 bs) _ [] (λ ss. section_places bs ss ++ []) (buffer_places bs) (sections_in_places [] sm5 bs) λ at₁ ps₁.
      let ss = (place_sections O sm5 bs at₁ ps₁).result in
      return_in_places (zip ns ss) (section_places bs ss ++ []) (buffer_places bs)
      (λ p c. subst (Covered p) (append-nil (section_places bs ss) ∙ all_places bs ns ss named (sections_sized sm5 bs at₁ ps₁)) c)

  buffers_in_places : (sm5 : Bool) (bs : List (CBufferDef N D)) → InPlaces (place_buffers O sm5 bs) [] (λ o. buffer_places bs o.1)
  unfolding place_buffers
  buffers_in_places sm5 [] = return_in_places (0, []) [] (λ o. buffer_places [] o.1) (λ p c. absurd c)
  buffers_in_places sm5 (b ∷ bs) =
      let B = reserve (length (b ∷ bs) * buffer_size) (rows buffer_words_in_chunk (b ∷ bs)) (place_buffer_parts O sm5 (b ∷ bs)) in
      bind_in_places pad _ [] (λ _. []) (λ o. buffer_places (b ∷ bs) o.1) (plain_in_places pad [] plain_pad) λ at₀ ps₀.
      bind_in_places B _ [] (buffer_places (b ∷ bs)) (λ o. buffer_places (b ∷ bs) o.1)
      (ahead_in_places (length (b ∷ bs) * buffer_size) (rows buffer_words_in_chunk (b ∷ bs)) (place_buffer_parts O sm5 (b ∷ bs)) [] (buffer_places (b ∷ bs))
      (λ at ps. rows_length buffer_words_in_chunk buffer_size buffer_words_length (b ∷ bs) _ (buffer_parts_length O sm5 (b ∷ bs) at ps))
      (buffer_parts_in_places sm5 (b ∷ bs))) λ at₁ ps₁.
      return_in_places _ (buffer_places (b ∷ bs) (B at₁ ps₁).result) (λ o. buffer_places (b ∷ bs) o.1) (λ p c. c)

  body_in_places : (r : ResourceDef N D) → InPlaces (place_body O r) [] (λ o. buffer_places r.constant_buffers o.sections)
  unfolding place_body
  body_in_places r =
      let B = reserve (length r.bindings * binding_size (is_wide r.rd11)) (rows (binding_words_in_chunk (is_wide r.rd11)) r.bindings)
      (place_outer_names O (map (λ b. b.name) r.bindings)) in
      let after : BodyOffsets → List Text = λ o. buffer_places r.constant_buffers o.sections in
      bind_in_places B _ [] (λ _. []) after (plain_in_places B [] (plain_reserve _ _ (plain_outer_names O _))) λ at₀ ps₀.
      bind_in_places (place_buffers O (is_sm5 r.rd11) r.constant_buffers) _ [] (λ o. buffer_places r.constant_buffers o.1) after
      (buffers_in_places (is_sm5 r.rd11) r.constant_buffers) λ at₁ ps₁.
      let P : List Text = buffer_places r.constant_buffers (place_buffers O (is_sm5 r.rd11) r.constant_buffers at₁ ps₁).result.1 in
      bind_in_places (place_inner_name O r.creator) _ P (λ _. P) after
      (plain_in_places (place_inner_name O r.creator) P (plain_inner_name O r.creator)) λ at₂ ps₂.
      bind_in_places pad _ P (λ _. P) after (plain_in_places pad P plain_pad) λ at₃ ps₃. return_in_places _ P after (λ p c. c)

  pub cells_within : (r : ResourceDef N D) → Within 0 (layout O r).cells (default_places O.default_length (layout O r).result r)
  unfolding layout place_chunk default_places defaults_of
  cells_within r =
      (ahead_in_places (header_word_count (is_sm5 r.rd11)) (header_words_in_chunk r) (place_body O r) []
      (λ o. buffer_places r.constant_buffers o.sections) (λ at ps. header_words_length r _) (body_in_places r)).within 0 (pools [] [] [] [] [])
