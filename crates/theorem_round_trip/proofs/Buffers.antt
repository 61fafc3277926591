-- Where buffers are placed, each of their records reads as the buffer, with its variables: by the laws on variables and names, and by the words of the record.
use mathlib.Core.Path.{◌≡◌, refl, ap, sym, ◌∙◌, subst}
use mathlib.Core.List.{List, [], ◌∷◌, ◌++◌, map, map-append}
use mathlib.Core.Bool.{Bool, true}
use Prim.Native.Nat.{ℕ, ◌+◌, ◌*◌, ◌<◌, ◌≤◌}
use native.Mathlib.Omega.{arith}
use native.Mathlib.Nat.{add-zero}
use lib.Dec.{eqb}
use lib.ListN.{length, get_or, length-map}
use Rattle.words.specs.Words.{word_at}
use Rattle.text.specs.Strings.{cstring_at}
use Rattle.reflection.specs.Limits.{chunk_limit}
use Rattle.reflection.specs.Strides.{buffer_stride, variable_stride}
use Rattle.reflection.specs.declared.Text.{Text}
use Rattle.reflection.specs.Reflection.{CBufferVariable, CBufferDef, map_variable, map_buffer}
use Rattle.reflection.specs.Texts.{in_chunk}
use Rattle.reflection.specs.Reflection.{all_variables}
use Rattle.reflection.specs.Contents.{Bytes}
use Rattle.reflection.proofs.Equalities.{equal_buffers}
use Rattle.read_spec.specs.Step.{Room, room}
use Rattle.read_spec.specs.Read.{read_many, read_variable, buffer_from_chunk, read_buffer}
use Rattle.readable.specs.Readable.{name_readable}
use Rattle.write_spec.specs.Step.{Cell, reserve, word_cells}
use Rattle.write_spec.specs.Records.{VariableOffsets, variable_words_in_chunk, variable_size, Section, buffer_words_in_chunk, buffer_size, rows}
use Rattle.write_spec.specs.Layout.{zip, place_variables, place_section, place_sections, place_buffer_parts, place_buffers}
use Rattle.write_spec.specs.Canonical.{bytes_facts}
use Rattle.write_spec.proofs.Sizes.{rows_length, variable_words_length, buffer_words_length, variables_length, buffer_parts_length}
use Rattle.theorem_round_trip.specs.RoundTrip.{EachIsWord, buffer_numbers, places_of, section_offsets}
use Rattle.theorem_round_trip.proofs.Lists.{All, all_weaken, all_to_map, Zip, Zip3, zip3_weaken, zip3_map, zip_length}
use Rattle.theorem_round_trip.proofs.Holds.{bytes_of, holds_nothing, WordsAt, inside_bytes, row_word, words_fit}
use Rattle.theorem_round_trip.proofs.Rooms.{plus, Takes, then_takes, free_then, then_free, returns, check_takes, text_takes, buffer_takes}
use Rattle.theorem_round_trip.proofs.Texts.{text_in, name_in, default_in, NameAt}
use Rattle.theorem_round_trip.proofs.Steps.{Leaves, bind_leaves, reserve_leaves, return_leaves, pad_leaves}
use Rattle.theorem_round_trip.proofs.Names.{place_outer_names_leaves}
use Rattle.theorem_round_trip.proofs.Conditions.{ReadableBuffer}
use Rattle.theorem_round_trip.proofs.Tables.{total, many_read}
use Rattle.theorem_round_trip.proofs.Variables.{length_variable_words, VariableAt, variable_cost, VariableRead, variable_read, place_variables_leaves}

-- A buffer's variables: their records stand where the section starts.
pub record SectionAt (cells : List (Cell Bytes Bytes)) (sm5 : Bool) (b : CBufferDef Bytes Bytes) (s : Section) : Type 0 where
  pub stands : WordsAt cells s.start (rows (variable_words_in_chunk sm5) b.variables s.offsets)
  pub variables : Zip (VariableAt cells sm5) b.variables s.offsets

pub record BufferAt (cells : List (Cell Bytes Bytes)) (sm5 : Bool) (b : CBufferDef Bytes Bytes) (o : ℕ × Section) : Type 0 where
  pub fine : ReadableBuffer sm5 b
  pub name : NameAt cells o.0 b.name
  pub section : SectionAt cells sm5 b o.1

abbrev pub buffer_cost : CBufferDef Bytes Bytes → Room
buffer_cost b = plus (room 0 1 0 0) (total variable_cost b.variables)

-- What is read is what was written, and the defaults lie at their offsets.
pub record BufferRead (cells : List (Cell Bytes Bytes)) (b : CBufferDef Bytes Bytes) (o : ℕ × Section) (p : CBufferDef Text Text) : Type 0 where
  pub is : map_buffer (text_in cells) (text_in cells) p ≡ map_buffer name_in default_in b
  pub count : length o.1.offsets ≡ length b.variables
  pub defaults : map (λ v. v.default-value) p.variables ≡ places_of length o.1.offsets (map (λ v. v.default-value) b.variables)

variable_places_lem : (cells : List (Cell Bytes Bytes)) (vs : List (CBufferVariable Bytes Bytes)) (os : List VariableOffsets)
    (ps : List (CBufferVariable Text Text))
    → Zip3 (VariableRead cells) vs os ps → map (λ v. v.default-value) ps ≡ places_of length os (map (λ v. v.default-value) vs)
unfolding places_of
variable_places_lem cells [] [] [] h = refl
variable_places_lem cells [] [] (p ∷ ps) h = absurd h
variable_places_lem cells [] (o ∷ os) ps h = absurd h
variable_places_lem cells (v ∷ vs) [] ps h = absurd h
variable_places_lem cells (v ∷ vs) (o ∷ os) [] h = absurd h
variable_places_lem cells (v ∷ vs) (o ∷ os) (p ∷ ps) h = let q = variable_places_lem cells vs os ps h.1 in λ i. h.0.default i ∷ q i

pub places_append : {D : Type 0} (long : D → ℕ) (xs ys : List VariableOffsets) (ds es : List D) → length xs ≡ length ds
    → places_of long (xs ++ ys) (ds ++ es) ≡ places_of long xs ds ++ places_of long ys es
unfolding places_of
places_append long [] ys [] es e = refl
places_append long [] ys (d ∷ ds) es e = absurd (omega arith)
places_append long (x ∷ xs) ys [] es e = absurd (omega arith)
places_append long (x ∷ xs) ys (d ∷ ds) es e = let q = places_append long xs ys ds es (omega arith) in λ i. in_chunk x.default (long d) ∷ q i

-- The defaults of all buffers lie at their offsets.
pub buffer_places_lem : (cells : List (Cell Bytes Bytes)) (bs : List (CBufferDef Bytes Bytes)) (os : List (ℕ × Section)) (ps : List (CBufferDef Text Text))
    → Zip3 (BufferRead cells) bs os ps
    → map (λ v. v.default-value) (all_variables ps) ≡ places_of length (section_offsets os) (map (λ v. v.default-value) (all_variables bs))
unfolding all_variables section_offsets places_of
buffer_places_lem cells [] [] [] h = refl
buffer_places_lem cells [] [] (p ∷ ps) h = absurd h
buffer_places_lem cells [] (o ∷ os) ps h = absurd h
buffer_places_lem cells (b ∷ bs) [] ps h = absurd h
buffer_places_lem cells (b ∷ bs) (o ∷ os) [] h = absurd h
buffer_places_lem cells (b ∷ bs) (o ∷ os) (p ∷ ps) h =
    let others = buffer_places_lem cells bs os ps h.1 in
    map-append (λ v. v.default-value) p.variables (all_variables ps)
    ∙ (λ i. h.0.defaults i ++ others i)
    ∙ sym (places_append length o.1.offsets (section_offsets os) (map (λ v. v.default-value) b.variables)
    (map (λ v. v.default-value) (all_variables bs)) (h.0.count ∙ sym (length-map b.variables (λ v. v.default-value))))
    ∙ ap (places_of length (o.1.offsets ++ section_offsets os)) (sym (map-append (λ v. v.default-value) b.variables (all_variables bs)))

pub length_buffer_words : (b : CBufferDef Bytes Bytes) (o : ℕ × Section) → 4 * length (buffer_words_in_chunk b o) ≡ buffer_stride
unfolding buffer_words_in_chunk
length_buffer_words b o = refl

module _ (cells : List (Cell Bytes Bytes)) (short : length cells ≤ chunk_limit) (sm5 : Bool) where
  pub buffer_read : (b : CBufferDef Bytes Bytes) (o : ℕ × Section) (at : ℕ) → BufferAt cells sm5 b o → WordsAt cells at (buffer_words_in_chunk b o)
      → (p : CBufferDef Text Text) × Takes (read_buffer (bytes_of cells) sm5 at) (buffer_cost b) p × BufferRead cells b o p
  unfolding read_buffer map_buffer buffer_from_chunk buffer_words_in_chunk EachIsWord buffer_numbers
  buffer_read b o at there h =
      let (vs, taken, views) = many_read cells (variable_words_in_chunk sm5) (variable_stride sm5) (length_variable_words sm5) (read_variable (bytes_of cells) sm5)
      variable_cost (VariableAt cells sm5) (VariableRead cells)
      (variable_read cells short sm5) b.variables o.1.offsets o.1.start there.section.variables there.section.stands in
      let name : Text = in_chunk o.0 (length b.name) in
      let p : CBufferDef Text Text = record { name = name; size = b.size; flags = b.flags; cb_type = b.cb_type; variables = vs } in
      let same = zip3_map (map_variable (text_in cells) (text_in cells)) (map_variable name_in default_in) b.variables o.1.offsets vs
      (zip3_weaken (λ v o p h. h.is) b.variables o.1.offsets vs views) in (
        p,
        then_takes _ (room 0 1 0 0) (total variable_cost b.variables) buffer_takes
            (free_then _ _ (check_takes _ _ (inside_bytes cells at buffer_stride (words_fit cells at row h)))
            (then_free _ _ (subst (λ n. Takes (read_many (read_variable (bytes_of cells) sm5) (variable_stride sm5) n (word_at (bytes_of cells) (at + 8)))
            (total variable_cost b.variables) vs) (sym (word 1 (omega arith)))
            (subst (λ a. Takes (read_many (read_variable (bytes_of cells) sm5) (variable_stride sm5) (length b.variables) a)
            (total variable_cost b.variables) vs) (sym (word 2 (omega arith))) taken))
            (then_free _ _ (text_takes _ _ o.0 (length b.name) (ap (cstring_at (bytes_of cells))
            (ap (word_at (bytes_of cells)) (sym (add-zero at)) ∙ word 0 (omega arith)) ∙ there.name.found))
            (returns _ p (equal_buffers _ p refl (λ i. word 3 (omega arith) i ∷ word 4 (omega arith) i ∷ word 5 (omega arith) i ∷ []) refl))))),
        record {
          is = equal_buffers _ _ there.name.is refl same;
          count = zip_length (VariableAt cells sm5) b.variables o.1.offsets there.section.variables;
          defaults = variable_places_lem cells b.variables o.1.offsets vs views;
        },
      )
    where
      row : List ℕ
      row = o.0 ∷ length b.variables ∷ o.1.start ∷ b.size ∷ b.flags ∷ b.cb_type ∷ []

      word : (j : ℕ) → j < 6 → word_at (bytes_of cells) (at + 4 * j) ≡ get_or (o.0 ∷ length b.variables ∷ o.1.start ∷ b.size ∷ b.flags ∷ b.cb_type ∷ [])
          j 0
      word j lt =
          row_word cells at row j (
            omega (arith, there.name.below_end),
            (
              omega (arith, there.fine.few),
              (omega (arith, words_fit cells o.1.start _ there.section.stands), there.fine.words),
            ),
          )
          lt
          h

  section_leaves : (b : CBufferDef Bytes Bytes) → ReadableBuffer sm5 b → (at : ℕ)
      → Leaves cells sm5 at (reserve (length b.variables * variable_size sm5) (rows (variable_words_in_chunk sm5) b.variables)
      (place_variables bytes_facts sm5 (eqb b.cb_type 0) b.variables))
      (λ os at'. SectionAt cells sm5 b (record { start = at; offsets = os }))
  section_leaves b fine at =
      reserve_leaves at (length b.variables * variable_size sm5) (rows (variable_words_in_chunk sm5) b.variables)
      (place_variables bytes_facts sm5 (eqb b.cb_type 0) b.variables)
      (λ ps. rows_length (variable_words_in_chunk sm5) (variable_size sm5) (variable_words_length sm5) b.variables _
      (variables_length bytes_facts sm5 (eqb b.cb_type 0) b.variables _ ps))
      (place_variables_leaves cells short sm5 b.variables fine.variables (eqb b.cb_type 0) _)
      (λ os at₁ all h. record { stands = h; variables = all })

  place_section_leaves : (b : CBufferDef Bytes Bytes) → ReadableBuffer sm5 b → (at : ℕ)
      → Leaves cells sm5 at (place_section bytes_facts sm5 b) (λ s at'. SectionAt cells sm5 b s)
  unfolding place_section
  place_section_leaves b fine at =
      bind_leaves (pad_leaves at) λ start at₁ le₁ here.
      bind_leaves (section_leaves b fine at₁) λ os at₂ le₂ there.
      return_leaves _ (subst (λ a. SectionAt cells sm5 b (record { start = a; offsets = os })) (sym here) there)

  place_sections_leaves : (bs : List (CBufferDef Bytes Bytes)) → All (ReadableBuffer sm5) bs → (at : ℕ)
      → Leaves cells sm5 at (place_sections bytes_facts sm5 bs) (λ ss at'. Zip (SectionAt cells sm5) bs ss)
  unfolding place_sections
  place_sections_leaves [] fine at = return_leaves [] tt
  place_sections_leaves (b ∷ bs) fine at =
      bind_leaves (place_section_leaves b fine.0 at) λ s at₁ le₁ there.
      bind_leaves (place_sections_leaves bs fine.1 at₁) λ ss at₂ le₂ others.
      return_leaves (s ∷ ss) (there, others)

  -- Names and sections side by side.
  buffers_joined : (bs : List (CBufferDef Bytes Bytes)) (os : List ℕ) (ss : List Section) → All (ReadableBuffer sm5) bs
      → Zip (λ n o. NameAt cells o n) (map (λ b. b.name) bs) os
      → Zip (SectionAt cells sm5) bs ss → Zip (BufferAt cells sm5) bs (zip os ss)
  unfolding zip
  buffers_joined [] [] ss fine named sections = tt
  buffers_joined [] (o ∷ os) ss fine named sections = absurd named
  buffers_joined (b ∷ bs) [] ss fine named sections = absurd named
  buffers_joined (b ∷ bs) (o ∷ os) [] fine named sections = absurd sections
  buffers_joined (b ∷ bs) (o ∷ os) (s ∷ ss) fine named sections =
      (record { fine = fine.0; name = named.0; section = sections.0 }, buffers_joined bs os ss fine.1 named.1 sections.1)

  place_buffer_parts_leaves : (bs : List (CBufferDef Bytes Bytes)) → All (ReadableBuffer sm5) bs → (at : ℕ)
      → Leaves cells sm5 at (place_buffer_parts bytes_facts sm5 bs) (λ os at'. Zip (BufferAt cells sm5) bs os)
  unfolding place_buffer_parts
  place_buffer_parts_leaves bs fine at =
      bind_leaves (place_outer_names_leaves cells sm5 (map (λ b. b.name) bs)
      (all_to_map (λ n. name_readable n ≡ true) (λ b. b.name) bs (all_weaken (λ b f. f.name) bs fine)) at) λ os at₁ le₁ named.
      bind_leaves (place_sections_leaves bs fine at₁) λ ss at₂ le₂ sections.
      return_leaves (zip os ss) (buffers_joined bs os ss fine named sections)

-- The buffers' records stand at an offset, and what they hold where they say.
pub record BuffersAt (cells : List (Cell Bytes Bytes)) (sm5 : Bool) (bs : List (CBufferDef Bytes Bytes)) (placed : ℕ × List (ℕ × Section)) : Type 0 where
  pub all : Zip (BufferAt cells sm5) bs placed.1
  pub stand : WordsAt cells placed.0 (rows buffer_words_in_chunk bs placed.1)

module _ (cells : List (Cell Bytes Bytes)) (short : length cells ≤ chunk_limit) (sm5 : Bool) where
  records_leave : (bs : List (CBufferDef Bytes Bytes)) → All (ReadableBuffer sm5) bs → (at : ℕ)
      → Leaves cells sm5 at (reserve (length bs * buffer_size) (rows buffer_words_in_chunk bs) (place_buffer_parts bytes_facts sm5 bs))
      (λ os at'. BuffersAt cells sm5 bs (at, os))
  records_leave bs fine at =
      reserve_leaves at (length bs * buffer_size) (rows buffer_words_in_chunk bs) (place_buffer_parts bytes_facts sm5 bs)
      (λ ps. rows_length buffer_words_in_chunk buffer_size buffer_words_length bs _ (buffer_parts_length bytes_facts sm5 bs _ ps))
      (place_buffer_parts_leaves cells short sm5 bs fine _)
      (λ os at₁ all h. record { all = all; stand = h })

  pub place_buffers_leaves : (bs : List (CBufferDef Bytes Bytes)) → All (ReadableBuffer sm5) bs → (at : ℕ)
      → Leaves cells sm5 at (place_buffers bytes_facts sm5 bs) (λ placed at'. BuffersAt cells sm5 bs placed)
  unfolding place_buffers WordsAt rows word_cells
  place_buffers_leaves [] fine at = return_leaves (0, []) (record { all = tt; stand = holds_nothing cells })
  place_buffers_leaves (b ∷ bs) fine at =
      bind_leaves (pad_leaves at) λ start at₁ le₁ here.
      bind_leaves (records_leave (b ∷ bs) fine at₁) λ os at₂ le₂ there.
      return_leaves (start, os) (subst (λ a. BuffersAt cells sm5 (b ∷ bs) (a, os)) (sym here) there)
