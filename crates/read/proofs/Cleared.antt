-- What `parse_rdef` leaves: clearing a table after its records, or whole on a refusal, makes it the table of the outcome, since the records take
-- as many words as the header counts. One law over the table's rows serves all four.
use Rattle.reflection.specs.Outcome.{Outcome}
use Rattle.reflection.specs.declared.refusal.Refusal.{Refusal}
use Rattle.std.specs.Prelude.{Ok, Err}
use mathlib.Core.Path.{◌≡◌, sym, ap, ◌∙◌}
use mathlib.Core.List.{List, ◌++◌}
use Prim.Native.Nat.{ℕ, ◌*◌, ◌-◌}
use native.Mathlib.Omega.{arith}
use lib.ListN.{length, take, replicate}
use Rattle.reflection.specs.Limits.{binding_width, buffer_width, variable_width, type_width}
use Rattle.reflection.specs.declared.Text.{Text}
use Rattle.reflection.specs.declared.ResourceDef.{ResourceDef as Header}
use Rattle.reflection.specs.Reflection.{ResourceDef}
use Rattle.tables.specs.Records.{binding_words_in_table, buffer_words_in_table, variable_words_in_table, type_words_in_table}
use Rattle.tables.specs.Tables.{binding_record, buffer_record, variable_record, type_record, all_nodes, binding_rows}
use Rattle.reflection.specs.Reflection.{all_variables}
use Rattle.tables.specs.Tables.{buffer_rows, variable_rows, type_rows, table, header_of}
use Rattle.read.specs.Parsed.{parsed_of, ParsedInto}
use Rattle.read.specs.Filled.{RowsHeld, Filled}
use Rattle.read.proofs.Rows.{rows_length, binding_width_lem, buffer_width_lem, variable_width_lem, type_width_lem}

-- The rows take as many words as the header counts.
module _ (def : ResourceDef Text Text) where
  binding_words_counted : length (binding_rows def) ≡ (header_of def).binding_count * binding_width
  unfolding binding_rows header_of
  binding_words_counted = rows_length binding_words_in_table binding_record binding_width binding_width_lem def.bindings

  buffer_words_counted : length (buffer_rows def) ≡ (header_of def).buffer_count * buffer_width
  unfolding buffer_rows header_of
  buffer_words_counted = rows_length buffer_words_in_table buffer_record buffer_width buffer_width_lem def.constant_buffers

  variable_words_counted : length (variable_rows def) ≡ (header_of def).variable_count * variable_width
  unfolding variable_rows header_of
  variable_words_counted = rows_length variable_words_in_table variable_record variable_width variable_width_lem (all_variables def.constant_buffers)

  type_words_counted : length (type_rows def) ≡ (header_of def).type_count * type_width
  unfolding type_rows header_of
  type_words_counted = rows_length type_words_in_table type_record type_width type_width_lem (all_nodes (all_variables def.constant_buffers))

-- A table, cleared from a word on.
abbrev ClearedFrom : ℕ → List ℕ → List ℕ → Type 0
ClearedFrom at t cleared = cleared ≡ take at t ++ replicate (length t - at) 0

-- The table after its records were cleared is the table of what was read.
cleared_after_rows : (rows : ResourceDef Text Text → List ℕ) (def : ResourceDef Text Text) (at n : ℕ) (t cleared : List ℕ)
    → length (rows def) ≡ at → take at t ≡ rows def → length t ≡ n → ClearedFrom at t cleared → cleared ≡ table rows (Ok def) n
unfolding table
cleared_after_rows rows def at n t cleared long held kept is = is ∙ λ i. held i ++ replicate (kept i - sym long i) 0

-- A table of a refusal is zeros.
cleared_whole : (rows : ResourceDef Text Text → List ℕ) (e : Refusal) (n : ℕ) (t cleared : List ℕ) → length t ≡ n → cleared ≡ replicate (length t) 0
    → cleared ≡ table rows (Err e) n
unfolding table
cleared_whole rows e n t cleared kept is = is ∙ ap (λ (k : ℕ). replicate k 0) kept

read_header : (h : Header) (def : ResourceDef Text Text) → Ok h ≡ parsed_of (Ok def) → header_of def ≡ h
unfolding parsed_of
read_header h def e = cc

-- From what `read_tables` left, by its answer: the answer says which outcome there was. The tables b, f, v and t, as long as the tables b₀, f₀, v₀ and t₀
-- of the entry, are cleared to b₁, f₁, v₁ and t₁.
module _ {out : Outcome (ResourceDef Text Text)} {b f v t : List ℕ}
    {b₀ f₀ v₀ t₀ : List ℕ} (b-kept : length b ≡ length b₀) (f-kept : length f ≡ length f₀) (v-kept : length v ≡ length v₀) (t-kept : length t ≡ length t₀)
    {b₁ f₁ v₁ t₁ : List ℕ} where
  pub refused_parses : (e : Refusal) → Filled out b f v t (Err e)
      → b₁ ≡ replicate (length b) 0 → f₁ ≡ replicate (length f) 0 → v₁ ≡ replicate (length v) 0 → t₁ ≡ replicate (length t) 0
      → ParsedInto out b₀ f₀ v₀ t₀ b₁ f₁ v₁ t₁ (Err e)
  unfolding parsed_of
  refused_parses e filled b-zero f-zero v-zero t-zero = go out filled.answer
    where
      go : (o : Outcome (ResourceDef Text Text)) → Err e ≡ parsed_of o → ParsedInto o b₀ f₀ v₀ t₀ b₁ f₁ v₁ t₁ (Err e)
      go (Ok def) is = absurd (let apart : ◌≡◌ {A = ℕ} 0 1 = cc in omega arith)
      go (Err d) is = record {
        answer = is;
        bindings = cleared_whole binding_rows d (length b₀) b b₁ b-kept b-zero;
        buffers = cleared_whole buffer_rows d (length f₀) f f₁ f-kept f-zero;
        variables = cleared_whole variable_rows d (length v₀) v v₁ v-kept v-zero;
        types = cleared_whole type_rows d (length t₀) t t₁ t-kept t-zero;
      }

  pub read_parses : (h : Header) → Filled out b f v t (Ok h)
      → ClearedFrom (h.binding_count * binding_width) b b₁ → ClearedFrom (h.buffer_count * buffer_width) f f₁
      → ClearedFrom (h.variable_count * variable_width) v v₁ → ClearedFrom (h.type_count * type_width) t t₁
      → ParsedInto out b₀ f₀ v₀ t₀ b₁ f₁ v₁ t₁ (Ok h)
  unfolding parsed_of
  read_parses h filled b-cleared f-cleared v-cleared t-cleared = go out filled.answer filled.rows
    where
      go : (o : Outcome (ResourceDef Text Text)) → Ok h ≡ parsed_of o → RowsHeld (Ok h) o b f v t → ParsedInto o b₀ f₀ v₀ t₀ b₁ f₁ v₁ t₁ (Ok h)
      go (Err d) is held = absurd (let apart : ◌≡◌ {A = ℕ} 0 1 = cc in omega arith)
      go (Ok def) is held =
          let counts : (count : Header → ℕ) (width : ℕ) → count (header_of def) * width ≡ count h * width =
          λ count width. ap (λ (x : Header). count x * width) (read_header h def is) in
          record {
            answer = is;
            bindings =
                cleared_after_rows binding_rows def _ (length b₀) b b₁
                (binding_words_counted def ∙ counts (λ (x : Header). x.binding_count) binding_width) held.0 b-kept b-cleared;
            buffers =
                cleared_after_rows buffer_rows def _ (length f₀) f f₁
                (buffer_words_counted def ∙ counts (λ (x : Header). x.buffer_count) buffer_width) held.1.0 f-kept f-cleared;
            variables =
                cleared_after_rows variable_rows def _ (length v₀) v v₁
                (variable_words_counted def ∙ counts (λ (x : Header). x.variable_count) variable_width) held.1.1.0 v-kept v-cleared;
            types =
                cleared_after_rows type_rows def _ (length t₀) t t₁
                (type_words_counted def ∙ counts (λ (x : Header). x.type_count) type_width) held.1.1.1 t-kept t-cleared;
          }
