-- How long the parts of the layout are: every record has as many words as its kind, a step over a list hands back an offset for each element, and so the words
-- that stand `reserve` of a step are as many as were left for them.
use mathlib.Core.Path.{◌≡◌, refl, ap, sym, ◌∙◌}
use mathlib.Core.Bool.{Bool, true, false}
use mathlib.Core.List.{List, [], ◌∷◌, map}
use Prim.Native.Nat.{ℕ, suc, ◌+◌, ◌*◌}
use native.Mathlib.Omega.{arith}
use lib.Dec.{eqb}
use lib.ListN.{length, length-append, length-map}
use Rattle.words.specs.Words.{word_bytes}
use Rattle.reflection.specs.Reflection.{CBufferVariable, CBufferDef, ResourceBinding, ResourceDef, Rd11, no_rd11, rd11, is_sm5}
use Rattle.write_spec.specs.Step.{TextFacts, Pools, ◌>>=◌, return, word_cells, reserve}
use Rattle.write_spec.specs.Records.{VariableOffsets, variable_words_in_chunk, variable_size, Section, buffer_words_in_chunk, buffer_size}
use Rattle.write_spec.specs.Records.{binding_words_in_chunk, binding_size, rd11_words, header_words_in_chunk, header_word_count, BodyOffsets, rows}
use Rattle.write_spec.specs.Layout.{zip, place_variables, place_section, place_sections, place_outer_names, place_buffer_parts}

pub word_cells_length : (N D : Type 0) (ws : List ℕ) → length (word_cells {N = N} {D = D} ws) ≡ 4 * length ws
unfolding word_cells word_bytes
word_cells_length N D [] = refl
word_cells_length N D (w ∷ ws) = omega (arith, word_cells_length N D ws)

pub rows_length : {A B C : Type 0} (row : A → B → List C) (size : ℕ) → ((x : A) (o : B) → length (row x o) ≡ size) → (xs : List A) (os : List B)
    → length os ≡ length xs → length (rows row xs os) ≡ length xs * size
unfolding rows
rows_length row size e [] os h = sym (native.Mathlib.Nat.zero-mul size)
rows_length row size e (x ∷ xs) [] h = absurd (omega arith)
rows_length row size e (x ∷ xs) (o ∷ os) h =
    length-append (row x o) (rows row xs os) ∙ (λ i. e x o i + rows_length row size e xs os (omega arith) i)
    ∙ (let s : size + length xs * size ≡ suc (length xs) * size = omega arith in s)

pub variable_words_length : {N D : Type 0} (sm5 : Bool) (v : CBufferVariable N D) (o : VariableOffsets)
    → length (variable_words_in_chunk sm5 v o) ≡ variable_size sm5
unfolding variable_words_in_chunk
variable_words_length false v o = refl
variable_words_length true v o = refl

pub buffer_words_length : {N D : Type 0} (b : CBufferDef N D) (o : ℕ × Section) → length (buffer_words_in_chunk b o) ≡ buffer_size
unfolding buffer_words_in_chunk
buffer_words_length b o = refl

pub binding_words_length : {N : Type 0} (wide : Bool) (b : ResourceBinding N) (o : ℕ) → length (binding_words_in_chunk wide b o) ≡ binding_size wide
unfolding binding_words_in_chunk
binding_words_length false b o = refl
binding_words_length true b o = refl

pub header_words_length : {N D : Type 0} (r : ResourceDef N D) (o : BodyOffsets) → length (header_words_in_chunk r o) ≡ header_word_count (is_sm5 r.rd11)
unfolding header_words_in_chunk rd11_words
header_words_length r o = go r.rd11
  where
    go : (w : Rd11) → suc (suc (suc (suc (suc (suc (suc (length (rd11_words w)))))))) ≡ header_word_count (is_sm5 w)
    go no_rd11 = refl
    go (rd11 identifier stride slots) = refl

pub zip_length : {A B : Type 0} (xs : List A) (ys : List B) → length ys ≡ length xs → length (zip xs ys) ≡ length xs
unfolding zip
zip_length [] ys h = refl
zip_length (x ∷ xs) [] h = h
zip_length (x ∷ xs) (y ∷ ys) h = ap suc (zip_length xs ys (omega arith))

module _ {N D : Type 0} (O : TextFacts N D) where
  pub variables_length : (sm5 share : Bool) (vs : List (CBufferVariable N D)) (at : ℕ) (ps : Pools N D)
      → length (place_variables O sm5 share vs at ps).result ≡ length vs
  unfolding place_variables ◌>>=◌ return
  variables_length sm5 share [] at ps = refl
  variables_length sm5 share (v ∷ vs) at ps = ap suc (variables_length sm5 share vs _ _)

  pub outer_names_length : (ns : List N) (at : ℕ) (ps : Pools N D) → length (place_outer_names O ns at ps).result ≡ length ns
  unfolding place_outer_names ◌>>=◌ return
  outer_names_length [] at ps = refl
  outer_names_length (n ∷ ns) at ps = ap suc (outer_names_length ns _ _)

  pub sections_length : (sm5 : Bool) (bs : List (CBufferDef N D)) (at : ℕ) (ps : Pools N D) → length (place_sections O sm5 bs at ps).result ≡ length bs
  unfolding place_sections ◌>>=◌ return
  sections_length sm5 [] at ps = refl
  sections_length sm5 (b ∷ bs) at ps = ap suc (sections_length sm5 bs _ _)

  pub section_length : (sm5 : Bool) (b : CBufferDef N D) (at : ℕ) (ps : Pools N D)
      → length (place_section O sm5 b at ps).result.offsets ≡ length b.variables
  unfolding place_section ◌>>=◌ return reserve
  section_length sm5 b at ps = variables_length sm5 (eqb b.cb_type 0) b.variables _ _

  pub buffer_parts_length : (sm5 : Bool) (bs : List (CBufferDef N D)) (at : ℕ) (ps : Pools N D) → length (place_buffer_parts O sm5 bs at ps).result ≡ length bs
  unfolding place_buffer_parts ◌>>=◌ return
  buffer_parts_length sm5 bs at ps =
      let names = outer_names_length (map (λ b. b.name) bs) at ps ∙ length-map bs (λ b. b.name) in
      zip_length _ _ (sections_length sm5 bs _ _ ∙ sym names) ∙ names
