-- From names, types and defaults to the whole chunk: what the code has to hand over for a variable, a section, the buffers and the chunk, and that it is then a
-- run of that step. Each follows the definition step by step.
use mathlib.Core.Path.{◌≡◌, refl, ◌∙◌}
use mathlib.Core.Bool.{Bool}
use mathlib.Core.List.{List, [], ◌∷◌, map}
use mathlib.Core.Logic.{◌⊎◌, inl, inr, ⊎_elim}
use Prim.Native.Nat.{ℕ, ◌+◌, ◌*◌, ◌/◌}
use native.Mathlib.Omega.{arith}
use lib.Dec.{eqb}
use lib.ListN.{length, replicate, length-map}
use Rattle.words.specs.Splice.{Put}
use Rattle.reflection.specs.declared.Text.{Text}
use Rattle.reflection.specs.Reflection.{CBufferVariable, CBufferDef, ResourceDef, is_sm5, is_wide}
use Rattle.reflection.specs.Strides.{buffer_stride}
use Rattle.write_spec.specs.Step.{Pools, pools, padding_at}
use Rattle.write_spec.specs.Records.{VariableOffsets, Section, rows, variable_words_in_chunk, variable_size, buffer_words_in_chunk}
use Rattle.write_spec.specs.Records.{binding_words_in_chunk}
use Rattle.write_spec.specs.Records.{binding_size, header_words_in_chunk, header_word_count}
use Rattle.write_spec.specs.Layout.{zip, place_outer_name, place_inner_name, place_default, place_type, place_variable, place_variables}
use Rattle.write_spec.specs.Layout.{place_section}
use Rattle.write_spec.specs.Layout.{place_sections, place_outer_names, place_buffer_parts, place_buffers, place_body, place_chunk, layout}
use Rattle.write_spec.proofs.Sizes.{rows_length, variable_words_length, buffer_words_length, binding_words_length, header_words_length}
use Rattle.write_spec.proofs.Sizes.{variables_length, outer_names_length, buffer_parts_length}
use Rattle.write_texts.specs.Simulates.{Simulates, text_facts, cell_bytes}
use Rattle.write_texts.specs.Bytes.{joined_bytes}
use Rattle.write_texts.proofs.CellBytes.{length_cell_bytes}
use Rattle.write_texts.proofs.Runs.{ran_bind, ran_return, ran_pad}
use Rattle.write_texts.proofs.Ahead.{simulates_reserve}
use Rattle.write_tables.specs.Chunk.{TooLong}
use Rattle.write_tables.proofs.Many.{Each}

pub each_outer_name : (chunk edits : List ℕ) → Each (place_outer_names (text_facts chunk edits)) (place_outer_name (text_facts chunk edits))
unfolding place_outer_names
each_outer_name chunk edits = record { of_none = refl; of_more = λ x xs. refl }

module _ (chunk edits : List ℕ) (sm5 : Bool) where
  -- The steps that are done for each of a list.
  pub each_variable : (share : Bool) → Each (place_variables (text_facts chunk edits) sm5 share) (place_variable (text_facts chunk edits) sm5 share)
  unfolding place_variables
  each_variable share = record { of_none = refl; of_more = λ x xs. refl }

  pub each_section : Each (place_sections (text_facts chunk edits) sm5) (place_section (text_facts chunk edits) sm5)
  unfolding place_sections
  each_section = record { of_none = refl; of_more = λ x xs. refl }

  -- A variable: its name, its type, its default.
  pub ran_variable : (share : Bool) (x : CBufferVariable Text Text) {at at₁ at₂ at₃ name type default : ℕ} {ps ps₁ ps₂ ps₃ : Pools Text Text}
      {out out₁ out₂ out₃ : List ℕ}
      → Simulates chunk edits (place_inner_name (text_facts chunk edits) x.name) at ps out out₁ name at₁ ps₁
      → Simulates chunk edits (place_type (text_facts chunk edits) sm5 share x.var_type) at₁ ps₁ out₁ out₂ type at₂ ps₂
      → Simulates chunk edits (place_default (text_facts chunk edits) x.default-value) at₂ ps₂ out₂ out₃ default at₃ ps₃
      → Simulates chunk edits (place_variable (text_facts chunk edits) sm5 share x) at ps out out₃
      (record { name = name; type = type; default = default }) at₃ ps₃
  unfolding place_variable
  ran_variable share x p q r = ran_bind chunk edits _ p (ran_bind chunk edits _ q (ran_bind chunk edits _ r (ran_return chunk edits _ _ _ _)))

  -- A section: padding, the variables from behind the room for their records, and the records into the room.
  pub ran_section : (b : CBufferDef Text Text) {at start to end : ℕ} {ps ps' : Pools Text Text} {out out₁ out₂ out₃ : List ℕ} {os : List VariableOffsets}
      → Put out at (replicate (padding_at at) 0xab) out₁ start
      → Simulates chunk edits (place_variables (text_facts chunk edits) sm5 (eqb b.cb_type 0) b.variables)
      (start + 4 * (length b.variables * variable_size sm5)) ps out₁ out₂ os to ps'
      → Put out₂ start (joined_bytes (rows (variable_words_in_chunk sm5) b.variables os)) out₃ end
      → Simulates chunk edits (place_section (text_facts chunk edits) sm5 b) at ps out out₃ (record { start = start; offsets = os }) to ps'
  unfolding place_section
  ran_section b {start = start} {ps = ps} padded placed written =
      ran_bind chunk edits _ (ran_pad chunk edits padded)
      (ran_bind chunk edits _ (simulates_reserve chunk edits (length b.variables * variable_size sm5) (rows (variable_words_in_chunk sm5) b.variables) sized
      placed written) (ran_return chunk edits _ _ _ _))
    where
      share : Bool
      share = eqb b.cb_type 0

      sized : length (rows (variable_words_in_chunk sm5) b.variables (place_variables (text_facts chunk edits) sm5 share b.variables
          (start + 4 * (length b.variables * variable_size sm5)) ps).result)
          ≡ length b.variables * variable_size sm5
      sized = rows_length (variable_words_in_chunk sm5) (variable_size sm5) (variable_words_length sm5) b.variables _
          (variables_length (text_facts chunk edits) sm5 share b.variables _ ps)

  pub ran_no_buffers : (at : ℕ) (ps : Pools Text Text) (out : List ℕ) → Simulates chunk edits (place_buffers (text_facts chunk edits) sm5 []) at ps out out
      (0, []) at ps
  unfolding place_buffers
  ran_no_buffers at ps out = ran_return chunk edits (0, []) at ps out

  -- The buffers: padding, their names and sections from behind the room for their records, and the records into the room.
  pub ran_buffers : (b : CBufferDef Text Text) (bs : List (CBufferDef Text Text)) {at start mid to end : ℕ} {ps ps₁ ps₂ : Pools Text Text}
      {out out₁ out₂ out₃ out₄ names : List ℕ} {sections : List Section}
      → Put out at (replicate (padding_at at) 0xab) out₁ start
      → Simulates chunk edits (place_outer_names (text_facts chunk edits) (map (λ b. b.name) (b ∷ bs))) (start + 4 * (length (b ∷ bs) * (buffer_stride / 4)))
      ps out₁ out₂ names mid ps₁
      → Simulates chunk edits (place_sections (text_facts chunk edits) sm5 (b ∷ bs)) mid ps₁ out₂ out₃ sections to ps₂
      → Put out₃ start (joined_bytes (rows buffer_words_in_chunk (b ∷ bs) (zip names sections))) out₄ end
      → Simulates chunk edits (place_buffers (text_facts chunk edits) sm5 (b ∷ bs)) at ps out out₄ (start, zip names sections) to ps₂
  unfolding place_buffers place_buffer_parts
  ran_buffers b bs {start = start} {ps = ps} padded named placed written =
      ran_bind chunk edits _ (ran_pad chunk edits padded)
      (ran_bind chunk edits _ (simulates_reserve chunk edits (length (b ∷ bs) * (buffer_stride / 4)) (rows buffer_words_in_chunk (b ∷ bs)) sized
      (ran_bind chunk edits _ named (ran_bind chunk edits _ placed (ran_return chunk edits _ _ _ _))) written)
      (ran_return chunk edits _ _ _ _))
    where
      sized : length (rows buffer_words_in_chunk (b ∷ bs) (place_buffer_parts (text_facts chunk edits) sm5 (b ∷ bs)
          (start + 4 * (length (b ∷ bs) * (buffer_stride / 4))) ps).result) ≡ length (b ∷ bs) * (buffer_stride / 4)
      sized = rows_length buffer_words_in_chunk (buffer_stride / 4) buffer_words_length (b ∷ bs) _ (buffer_parts_length (text_facts chunk edits) sm5 (b ∷ bs) _ ps)

-- The chunk: the bindings' names from behind the room for the header and the bindings' records, those records into their room, the buffers, the creator,
-- padding, and the header into its room.
pub ran_chunk : (chunk edits : List ℕ) (r : ResourceDef Text Text) {at₁ at₂ at₃ at₄ creator e₁ e₂ : ℕ} {ps₁ ps₂ ps₃ : Pools Text Text}
    {out out₁ out₂ out₃ out₄ out₅ out₆ names : List ℕ} {buffers : ℕ × List (ℕ × Section)}
    → Simulates chunk edits (place_outer_names (text_facts chunk edits) (map (λ b. b.name) r.bindings))
    (0 + 4 * header_word_count (is_sm5 r.rd11) + 4 * (length r.bindings * binding_size (is_wide r.rd11))) (pools [] [] [] [] []) out out₁ names at₁ ps₁
    → Put out₁ (0 + 4 * header_word_count (is_sm5 r.rd11)) (joined_bytes (rows (binding_words_in_chunk (is_wide r.rd11)) r.bindings names)) out₂ e₁
    → Simulates chunk edits (place_buffers (text_facts chunk edits) (is_sm5 r.rd11) r.constant_buffers) at₁ ps₁ out₂ out₃ buffers at₂ ps₂
    → Simulates chunk edits (place_inner_name (text_facts chunk edits) r.creator) at₂ ps₂ out₃ out₄ creator at₃ ps₃
    → Put out₄ at₃ (replicate (padding_at at₃) 0xab) out₅ at₄
    → Put out₅ 0 (joined_bytes (header_words_in_chunk r (record { buffers = buffers.0; sections = buffers.1; creator = creator }))) out₆ e₂
    → Put out 0 (cell_bytes chunk edits (layout (text_facts chunk edits) r).cells) out₆ at₄ ⊎ TooLong
    (cell_bytes chunk edits (layout (text_facts chunk edits) r).cells) out out₆ at₄
unfolding layout place_chunk place_body
ran_chunk chunk edits r named bound buffered created padded headed =
    ⊎_elim (λ p. inl p.put) (λ p. inr (record {
      reached = p.reached;
      defined = omega
          (arith, p.defined, length_cell_bytes chunk edits (layout (text_facts chunk edits) r).cells);
      long = p.long;
    }))
    (simulates_reserve chunk edits (header_word_count (is_sm5 r.rd11)) (header_words_in_chunk r) (header_words_length r _)
    (ran_bind chunk edits _ (simulates_reserve chunk edits (length r.bindings * binding_size (is_wide r.rd11))
    (rows (binding_words_in_chunk (is_wide r.rd11)) r.bindings) sized named bound)
    (ran_bind chunk edits _ buffered (ran_bind chunk edits _ created (ran_bind chunk edits _ (ran_pad chunk edits padded) (ran_return chunk edits _ _ _ _)))))
    headed
    ).known
  where
    names_at : ℕ
    names_at = 0 + 4 * header_word_count (is_sm5 r.rd11) + 4 * (length r.bindings * binding_size (is_wide r.rd11))

    sized : length (rows (binding_words_in_chunk (is_wide r.rd11)) r.bindings
        (place_outer_names (text_facts chunk edits) (map (λ b. b.name) r.bindings) names_at (pools [] [] [] [] [])).result)
        ≡ length r.bindings * binding_size (is_wide r.rd11)
    sized =
        rows_length (binding_words_in_chunk (is_wide r.rd11)) (binding_size (is_wide r.rd11)) (binding_words_length (is_wide r.rd11)) r.bindings _
        (outer_names_length (text_facts chunk edits) (map (λ b. b.name) r.bindings) names_at (pools [] [] [] [] []) ∙ length-map r.bindings
        (λ b. b.name))
