-- The buffers, from what padding, placing their names and sections and writing their records did.
use mathlib.Core.Path.{◌≡◌, refl, ap, sym, ◌∙◌, subst}
use mathlib.Core.Bool.{Bool}
use mathlib.Core.List.{List, [], ◌∷◌, map}
use Prim.Native.Nat.{ℕ, zero, suc, ◌+◌, ◌*◌, ◌/◌, ◌≤◌}
use native.Mathlib.Nat.{zero-add}
use native.Mathlib.Omega.{arith}
use lib.ListN.{length, replicate}
use Rattle.words.specs.Splice.{Put}
use Rattle.reflection.specs.declared.Text.{Text}
use Rattle.reflection.specs.Reflection.{CBufferDef}
use Rattle.tables.specs.Records.{buffer_width, buffer_at}
use Rattle.tables.specs.Decode.{records_from, buffer_from_table}
use Rattle.reflection.specs.Strides.{buffer_stride}
use Rattle.write_spec.specs.Step.{Pools, padding_at}
use Rattle.write_spec.specs.Records.{Section, rows, buffer_words_in_chunk}
use Rattle.write_spec.specs.Layout.{zip, place_outer_names, place_sections, place_buffers}
use Rattle.write_pool.specs.Pool.{entry_count}
use Rattle.write_texts.specs.Cursor.{WriteCursor}
use Rattle.write_texts.specs.Simulates.{Simulates, text_facts}
use Rattle.write_texts.specs.Bytes.{joined_bytes}
use Rattle.write_texts.specs.Scratch.{buffer_offsets_width, buffers_start, inner_pool, default_pool}
use Rattle.write_texts.proofs.Runs.{ran_like, ran_step}
use Rattle.tables.specs.TableReflection.{root_at, count_at, first_variable, variable_in_table, buffer_in_table}
use Rattle.write_tables.specs.Offsets.{buffer_name, section_start, buffer_section, rows_from, buffer_row}
use Rattle.write_tables.specs.Placed.{pools_sharing, name_at, stored_at, NamesReady, NamesPlaced}
use Rattle.write_tables.specs.BuffersPlaced.{SectionsReady, SectionsPlaced, BuffersReady, BuffersPlaced, beginning}
use Rattle.write_tables.proofs.Lists.{zip_records, rows_records, same_rows}
use Rattle.tables.proofs.RecordLists.{length_records, map_records, same_records}
use Rattle.write_tables.proofs.Steps.{ran_no_buffers, ran_buffers}
use Rattle.write_tables.proofs.Pools.{inner_same, defaults_same, ran_from}
use Rattle.write_tables.proofs.OneSection.{padding_near}

pub no_buffers : {chunk edits buffers types : List ℕ} {variables : List ℕ} {sm5 : Bool} {count : ℕ} {cursor : WriteCursor} {s out : List ℕ}
    → BuffersReady chunk edits buffers types count cursor s → count ≡ 0
    → BuffersPlaced chunk edits buffers variables types sm5 count cursor.at s s out out (record { offset = 0; at = cursor.at })
unfolding records_from
no_buffers {chunk} {edits} {buffers} {types} {variables} {sm5} {count} {cursor} {s} {out} ready none =
    let at = cursor.at in
    let pools = pools_sharing types s 0 0 in
    record {
      after = beginning at;
      ran =
          subst
          (λ c.
          Simulates chunk edits (place_buffers (text_facts chunk edits) sm5 (records_from (buffer_in_table buffers variables types) 0 c)) at pools
          out out (0, records_from (λ i. (buffer_name s i, buffer_section buffers s i)) 0 c) at pools)
          (sym none) (ran_no_buffers chunk edits sm5 at pools out);
      ready = ready.pools;
      long = refl;
      names = omega (arith, ready.nothing.no_names);
      near = omega (arith, ready.nothing.output);
    }

-- The law of the buffers, for the records of a table.
some_buffers : (chunk edits : List ℕ) (sm5 : Bool) (held : ℕ → CBufferDef Text Text) (count : ℕ) {at start mid to end : ℕ}
    {ps ps₁ ps₂ : Pools Text Text} {out out₁ out₂ out₃ out₄ names : List ℕ} {sections : List Section}
    → (count ≡ 0 → ⊥) → Put out at (replicate (padding_at at) 0xab) out₁ start
    → Simulates chunk edits (place_outer_names (text_facts chunk edits) (map (λ b. b.name) (records_from held 0 count)))
    (start + 4 * (length (records_from held 0 count) * (buffer_stride / 4))) ps out₁ out₂ names mid ps₁
    → Simulates chunk edits (place_sections (text_facts chunk edits) sm5 (records_from held 0 count)) mid ps₁ out₂ out₃ sections to ps₂
    → Put out₃ start (joined_bytes (rows buffer_words_in_chunk (records_from held 0 count) (zip names sections))) out₄ end
    → Simulates chunk edits (place_buffers (text_facts chunk edits) sm5 (records_from held 0 count)) at ps out out₄ (start, zip names sections) to ps₂
unfolding records_from
some_buffers chunk edits sm5 held zero some padded named placed written = absurd (some refl)
some_buffers chunk edits sm5 held (suc m) some padded named placed written =
    ran_buffers chunk edits sm5 (held 0) (records_from held 1 m) padded named placed written

module _ {chunk edits buffers types : List ℕ} {count : ℕ} {cursor : WriteCursor} {s : List ℕ} (ready : BuffersReady chunk edits buffers types count cursor s)
    {start : ℕ} {out out₁ : List ℕ} (padded : Put out cursor.at (replicate (padding_at cursor.at) 0xab) out₁ start) where
  abbrev at : ℕ
  at = cursor.at

  pub start_near : start ≤ 2800000003
  start_near = omega (arith, ready.nothing.output, padding_near padded)

  -- There is room for the names, and then for the sections.
  pub names_ready : NamesReady chunk edits count buffers_start buffer_offsets_width (start + 4 * (count * (buffer_stride / 4))) s
  names_ready = record {
    pools = ready.pools;
    stored = omega arith;
    apart = omega arith;
    inside = omega (arith, ready.few_buffers);
    entries = ready.nothing.names_room;
    output = omega (arith, start_near, ready.few_buffers);
  }

  module _ {s₁ out₂ : List ℕ} {at₂ : ℕ} (named : NamesPlaced chunk edits (name_at buffer_width buffers) count buffers_start buffer_offsets_width
      (start + 4 * (count * (buffer_stride / 4))) s s₁ out₁ out₂ at₂) where
    no_names : entry_count (inner_pool s₁) ≤ 0
    no_names = omega (arith, ap entry_count (inner_same named.same (omega arith) (omega arith) ready.pools.long), ready.nothing.no_names)

    no_defaults : entry_count (default_pool s₁) ≤ 0
    no_defaults = omega (arith, ap entry_count (defaults_same named.same (omega arith) (omega arith) ready.pools.long), ready.nothing.no_defaults)

    pub sections_ready : {mid : WriteCursor} → mid ≡ beginning at₂ → SectionsReady chunk edits buffers types count mid s₁
    sections_ready is = subst (λ x. SectionsReady chunk edits buffers types count x s₁) (sym is) (record {
      pools = named.ready;
      no_types = refl;
      bounds = record {
        output = omega (arith, start_near, ready.few_buffers, named.near);
        names = no_names;
        defaults = no_defaults;
        stacked = omega arith;
        rooted = omega arith;
      };
      fit = ready.fit;
      few_buffers = ready.few_buffers;
    })

    module _ {variables : List ℕ} {sm5 : Bool} {s₂ out₃ out₄ : List ℕ} {to : WriteCursor} {end : ℕ} (some : count ≡ 0 → ⊥)
        (placed : SectionsPlaced chunk edits buffers variables types sm5 count at₂ s₁ s₂ out₂ out₃ to)
        (written : Put out₃ start (joined_bytes (rows_from (buffer_row buffers s₂) 0 count)) out₄ end) where
      abbrev held : ℕ → CBufferDef Text Text
      held = buffer_in_table buffers variables types

      abbrev bs : List (CBufferDef Text Text)
      bs = records_from held 0 count

      abbrev offsets : ℕ → ℕ × Section
      offsets i = (buffer_name s₂ i, buffer_section buffers s₂ i)

      abbrev zipped : List (ℕ × Section)
      zipped = zip (records_from (buffer_name s₂) 0 count) (records_from (buffer_section buffers s₂) 0 count)

      zipped_are : zipped ≡ records_from offsets 0 count
      zipped_are = zip_records (buffer_name s₂) (buffer_section buffers s₂) 0 count

      one_row : (i : ℕ) → buffer_words_in_chunk (held i) (offsets i) ≡ buffer_row buffers s₂ i
      unfolding buffer_words_in_chunk buffer_row buffer_in_table buffer_from_table buffer_section count_at
      one_row i =
          let n = length_records (variable_in_table variables types) (first_variable buffers i) (count_at buffers i) in
          let b = buffer_at buffers i in
          λ z. buffer_name s₂ i ∷ n z ∷ section_start s₂ i ∷ b.size ∷ b.flags ∷ b.cb_type ∷ []

      all_rows : rows buffer_words_in_chunk bs zipped ≡ rows_from (buffer_row buffers s₂) 0 count
      all_rows =
          ap (rows buffer_words_in_chunk bs) zipped_are ∙ rows_records buffer_words_in_chunk held offsets 0 count
          ∙ same_rows (λ i. buffer_words_in_chunk (held i) (offsets i)) (buffer_row buffers s₂) 0 count one_row

      names_are : records_from (name_at buffer_width buffers) 0 count ≡ map (λ b. b.name) bs
      unfolding name_at buffer_in_table buffer_from_table buffer_at
      names_are = sym (map_records (λ (b : CBufferDef Text Text). b.name) held 0 count)

      stored : records_from (stored_at buffers_start buffer_offsets_width s₁) 0 count ≡ records_from (buffer_name s₂) 0 count
      unfolding stored_at buffer_name
      stored =
          same_records (stored_at buffers_start buffer_offsets_width s₁) (buffer_name s₂) 0 count (λ i low high. sym (placed.names_kept i))

      named_ran : Simulates chunk edits (place_outer_names (text_facts chunk edits) (map (λ b. b.name) bs)) (start + 4 * (length bs * (buffer_stride / 4)))
          (pools_sharing types s 0 0) out₁ out₂ (records_from (buffer_name s₂) 0 count) at₂ (pools_sharing types s₁ 0 0)
      named_ran =
          ran_from (ap (λ (x : ℕ). start + 4 * (x * (buffer_stride / 4))) (sym (length_records held 0 count)))
          (ran_step chunk edits (ap (place_outer_names (text_facts chunk edits)) names_are) (ran_like chunk edits refl refl stored (named.ran types)))

      placed_buffers : BuffersPlaced chunk edits buffers variables types sm5 count at s s₂ out out₄ (record { offset = start; at = to.at })
      placed_buffers =
          let last-node : to.node ≡ root_at types (first_variable buffers count)
          = placed.advance.next ∙ ap (root_at types) (zero-add (first_variable buffers count)) in
          record {
            after = to;
            ran =
                ran_like chunk edits refl refl (ap (λ (x : List (ℕ × Section)). (start, x)) zipped_are)
                (some_buffers chunk edits sm5 held count some padded named_ran placed.ran
                (subst (λ x. Put out₃ start (joined_bytes x) out₄ end) (sym all_rows) written));
            ready = placed.advance.ready;
            long = placed.advance.long ∙ named.same.long;
            names = omega (arith, placed.advance.names, no_names, last-node, ready.fit.few_nodes);
            near = omega (arith, placed.near, named.near, start_near, last-node, ready.fit.few_nodes, ready.few_buffers);
          }

      -- The records leave the scratch.
      pub buffers_placed : {s₃ : List ℕ} → s₃ ≡ s₂ → BuffersPlaced chunk edits buffers variables types sm5 count at s s₃ out out₄
          (record { offset = start; at = to.at })
      buffers_placed kept =
          subst (λ x. BuffersPlaced chunk edits buffers variables types sm5 count at s x out out₄ (record { offset = start; at = to.at }))
          (sym kept) placed_buffers
