-- A section, from what padding, placing its variables and writing their records did: the variables were placed from behind their records' room, and the records
-- were written into it last. Its variables and nodes are few, so that all of it lies where an offset is a word.
use mathlib.Core.Path.{◌≡◌, refl, ap, sym, ◌∙◌, subst}
use mathlib.Core.Bool.{Bool, true, false}
use mathlib.Core.List.{List}
use Prim.Native.Nat.{ℕ, ◌+◌, ◌*◌, ◌≤◌, ◌<◌}
use native.Mathlib.Nat.{mul-le-mul_left}
use native.Mathlib.Omega.{arith}
use lib.Dec.{eqb}
use lib.ListN.{length, set, replicate, length-replicate}
use lib.Seq.{get_or-set_same, get_or-set_other}
use Rattle.words.specs.Splice.{Put}
use Rattle.reflection.specs.declared.CBufferDef.{CBufferDef as BufferRecord}
use Rattle.reflection.specs.declared.Text.{Text}
use Rattle.reflection.specs.Reflection.{CBufferVariable}
use Rattle.tables.specs.Records.{buffer_at}
use Rattle.tables.specs.Decode.{records_from, buffer_from_table, variable_from_table}
use Rattle.reflection.specs.Limits.{variable_room, type_room}
use Rattle.reflection.specs.Strides.{variable_stride}
use Rattle.write_spec.specs.Step.{padding_at}
use Rattle.write_spec.specs.Records.{rows, variable_words_in_chunk, variable_size}
use Rattle.write_spec.specs.Layout.{place_variables, place_section}
use Rattle.write_pool.specs.Pool.{entry_count}
use Rattle.write_texts.specs.Cursor.{WriteCursor}
use Rattle.write_texts.specs.Simulates.{Simulates, text_facts}
use Rattle.write_texts.specs.Bytes.{joined_bytes}
use Rattle.write_texts.specs.Scratch.{variable_offsets_width, buffer_offsets_width, variables_start, buffers_start}
use Rattle.write_texts.specs.PlacedInScratch.{Kept}
use Rattle.write_texts.proofs.Stores.{padding_short}
use Rattle.write_texts.proofs.Runs.{ran_like, ran_step}
use Rattle.write_texts.proofs.ScratchPools.{ready_kept, inner_kept_before, defaults_kept_before}
use Rattle.tables.specs.TableReflection.{root_at, count_at, first_variable, variable_in_table, buffer_in_table}
use Rattle.write_tables.specs.Offsets.{variable_offsets, section_start, buffer_section, rows_from, variable_row}
use Rattle.write_tables.specs.Placed.{pools_at}
use Rattle.write_tables.specs.VariablesPlaced.{VariablesReady, VariablesAdvance, VariablesPlaced}
use Rattle.write_tables.specs.BuffersPlaced.{SectionReady, SectionPlaced}
use Rattle.write_tables.proofs.Lists.{rows_records}
use Rattle.tables.proofs.RecordLists.{length_records, same_records}
use Rattle.write_tables.proofs.Steps.{ran_section}
use Rattle.write_tables.proofs.Pools.{kept_set, pools_at_kept, ran_from}
use Rattle.tables.proofs.TableOrder.{root_below, first_next}
use Rattle.write_tables.proofs.Advance.{moved_to}

-- The records' words are the rows that were written.
variable_rows_lem : (sm5 : Bool) (variables types s : List ℕ) (variable count : ℕ)
    → rows (variable_words_in_chunk sm5) (records_from (variable_in_table variables types) variable count) (records_from (variable_offsets s) variable count)
    ≡ rows_from (variable_row sm5 variables s) variable count
unfolding variable_in_table variable_row variable_words_in_chunk variable_from_table
variable_rows_lem sm5 variables types s variable count =
    rows_records (variable_words_in_chunk sm5) (variable_in_table variables types) (variable_offsets s) variable count

-- Padding moves the cursor by at most 3, and a variable's record takes at most the longer stride.
pub padding_near : {out out' : List ℕ} {at to : ℕ} → Put out at (replicate (padding_at at) 0xab) out' to → (at ≤ to) × (to ≤ at + 3)
padding_near {at = at} p = omega (arith, p.next, length-replicate {A = ℕ} (padding_at at) 0xab, padding_short at)

-- What a buffer counts is a field of its record.
pub field_counted : (buffers : List ℕ) (buffer : ℕ) {fields : BufferRecord} → fields ≡ buffer_at buffers buffer
    → fields.variable_count ≡ count_at buffers buffer
unfolding count_at
field_counted buffers buffer is = ap (λ (b : BufferRecord). b.variable_count) is

-- A variable's record is at most as long as one of major 5.
size_most : {size : ℕ} (sm5 : Bool) → size ≡ variable_size sm5 → size ≤ variable_size true
size_most false sized = omega (arith, sized)
size_most true sized = omega (arith, sized)

size_near : (sm5 : Bool) (count : ℕ) → 4 * (count * variable_size sm5) ≤ count * variable_stride true
size_near false count = omega arith
size_near true count = omega arith

module _ {chunk edits buffers types : List ℕ} {buffer variable : ℕ} {cursor : WriteCursor} {s : List ℕ}
    (ready : SectionReady chunk edits buffers types buffer variable cursor s) {count : ℕ} (counted : count ≡ count_at buffers buffer) where
  last_variable : variable + count ≡ first_variable buffers (buffer + 1)
  last_variable = (let first = ready.first in λ z. first z + counted z) ∙ first_next buffers buffer

  pub few_variables : variable + count ≤ variable_room
  few_variables = omega (arith, last_variable, ready.fit.few_variables)

  few_nodes : root_at types (variable + count) ≤ type_room
  few_nodes = omega (arith, ap (root_at types) last_variable, ready.fit.few_nodes)

  pub near_start : cursor.at + 100000 ≤ 3720000000
  near_start = omega (arith, ready.bounds.output, ready.root, root_below types variable (variable + count) (omega arith), few_nodes)

  pub records_short : {size : ℕ} (sm5 : Bool) → size ≡ variable_size sm5 → 4 * (count * size) ≤ 81920
  records_short sm5 sized = omega (arith, mul-le-mul_left count (size_most sm5 sized), few_variables)

  pub start_near : {start : ℕ} {out out₁ : List ℕ} → Put out cursor.at (replicate (padding_at cursor.at) 0xab) out₁ start → start ≤ 3719900003
  start_near padded = omega (arith, near_start, padding_near padded)

  module _ {size start : ℕ} {out out₁ : List ℕ} (sm5 : Bool) (sized : size ≡ variable_size sm5)
      (padded : Put out cursor.at (replicate (padding_at cursor.at) 0xab) out₁ start) where
    pub variables_ready : VariablesReady chunk edits types variable count (moved_to (start + 4 * (count * size)) cursor) s
    variables_ready = record {
      pools = ready.pools;
      bounds = record {
        output = omega (arith, ready.bounds.output, records_short sm5 sized, padding_near padded);
        names = ready.bounds.names;
        defaults = ready.bounds.defaults;
        stacked = ready.bounds.stacked;
        rooted = ready.bounds.rooted;
      };
      root = ready.root;
      few_nodes = few_nodes;
      few_variables = few_variables;
    }

    module _ {variables : List ℕ} {share : Bool} {end : ℕ} {s₁ out₂ out₃ : List ℕ} {to : WriteCursor} {b : BufferRecord}
        (is : b ≡ buffer_at buffers buffer) (is_share : share ≡ eqb b.cb_type 0)
        (placed : VariablesPlaced chunk edits variables types sm5 share variable count (moved_to (start + 4 * (count * size)) cursor) s s₁ out₁ out₂ to)
        (written : Put out₂ start (joined_bytes (rows_from (variable_row sm5 variables s₁) variable count)) out₃ end) where
      abbrev stored_at : ℕ
      stored_at = buffers_start + buffer * buffer_offsets_width + 1

      abbrev s₂ : List ℕ
      s₂ = set s₁ stored_at start

      abbrev vs : List (CBufferVariable Text Text)
      vs = records_from (variable_in_table variables types) variable count

      kept : Kept stored_at (stored_at + 1) s₁ s₂
      kept = kept_set s₁ stored_at start

      offsets_same : (x : ℕ) → variable ≤ x → x < variable + count → variable_offsets s₁ x ≡ variable_offsets s₂ x
      unfolding variable_offsets
      offsets_same x low high =
          let name = sym (kept.before (variables_start + x * variable_offsets_width) (omega (arith, few_variables, high))) in
          let type = sym (kept.before (variables_start + x * variable_offsets_width + 1) (omega (arith, few_variables, high))) in
          let default = sym (kept.before (variables_start + x * variable_offsets_width + 2) (omega (arith, few_variables, high))) in
          λ z. record { name = name z; type = type z; default = default z }

      stored : record { start = start; offsets = records_from (variable_offsets s₁) variable count } ≡ buffer_section buffers s₂ buffer
      unfolding buffer_section section_start
      stored =
          let begins = sym (get_or-set_same s₁ stored_at start 0 (omega (arith, ready.few_buffers, placed.advance.ready.long))) in
          let same = same_records (variable_offsets s₁) (variable_offsets s₂) variable count offsets_same in
          let first = ready.first in
          let offsets = same ∙ λ z. records_from (variable_offsets s₂) (first z) (counted z) in
          λ z. record { start = begins z; offsets = offsets z }

      variables_ran : Simulates chunk edits (place_variables (text_facts chunk edits) sm5 (eqb (buffer_at buffers buffer).cb_type 0) vs)
          (start + 4 * (length vs * variable_size sm5)) (pools_at types s cursor) out₁ out₂ (records_from (variable_offsets s₁) variable count)
          to.at (pools_at types s₁ to)
      variables_ran =
          let long = sym (length_records (variable_in_table variables types) variable count) in
          let shared = is_share ∙ ap (λ (x : BufferRecord). eqb x.cb_type 0) is in
          ran_from (λ z. start + 4 * (long z * sized z))
          (ran_step chunk edits (ap (λ (x : Bool). place_variables (text_facts chunk edits) sm5 x vs) shared) placed.ran)

      rows_written : Put out₂ start (joined_bytes (rows (variable_words_in_chunk sm5) vs (records_from (variable_offsets s₁) variable count))) out₃ end
      rows_written = subst (λ x. Put out₂ start (joined_bytes x) out₃ end) (sym (variable_rows_lem sm5 variables types s₁ variable count)) written

      variables_are : vs ≡ records_from (variable_in_table variables types) (first_variable buffers buffer) (count_at buffers buffer)
      variables_are = let first = ready.first in λ z. records_from (variable_in_table variables types) (first z) (counted z)

      pools_kept : pools_at types s₂ to ≡ pools_at types s₁ to
      pools_kept =
          let p = placed.advance in
          pools_at_kept types to.root_types to.member_types p.ready kept (omega arith)
          (omega (arith, p.rooted, ready.bounds.rooted, few_variables)) (omega (arith, p.stacked, ready.bounds.stacked, p.next, few_nodes))

      section_ran : Simulates chunk edits (place_section (text_facts chunk edits) sm5 (buffer_from_table (buffer_at buffers buffer) vs)) cursor.at
          (pools_at types s cursor) out out₃ (record { start = start; offsets = records_from (variable_offsets s₁) variable count })
          to.at (pools_at types s₁ to)
      unfolding buffer_from_table
      section_ran = ran_section chunk edits sm5 (buffer_from_table (buffer_at buffers buffer) vs) padded variables_ran rows_written

      all_ran : Simulates chunk edits (place_section (text_facts chunk edits) sm5 (buffer_in_table buffers variables types buffer)) cursor.at
          (pools_at types s cursor) out out₃ (buffer_section buffers s₂ buffer) to.at (pools_at types s₂ to)
      unfolding buffer_in_table
      all_ran =
          ran_step chunk edits
          (ap (λ (x : List (CBufferVariable Text Text)). place_section (text_facts chunk edits) sm5 (buffer_from_table (buffer_at buffers buffer) x)) variables_are)
          (ran_like chunk edits refl (sym pools_kept) stored section_ran)

      advance : VariablesAdvance chunk edits types variable count cursor to s s₂
      advance =
          let p = placed.advance in
          record {
            ready = ready_kept p.ready kept (omega arith);
            long = kept.long ∙ p.long;
            earlier = λ x low high. kept.before x (omega (arith, few_variables, high)) ∙ p.earlier x low high;
            next = p.next;
            forward = p.forward;
            names = omega (arith, ap entry_count (inner_kept_before kept p.ready.long (omega arith)), p.names);
            defaults = omega (arith, ap entry_count (defaults_kept_before kept p.ready.long (omega arith)), p.defaults);
            stacked = p.stacked;
            rooted = p.rooted;
          }

      placed_section : SectionPlaced chunk edits buffers variables types sm5 buffer cursor s s₂ out out₃ to
      placed_section = record {
        ran = all_ran;
        advance =
            let first = ready.first in
            subst (λ (p : ℕ × ℕ). VariablesAdvance chunk edits types p.0 p.1 cursor to s s₂) (λ z. (first z, counted z)) advance;
        others = λ x low other. get_or-set_other s₁ stored_at x start 0 other ∙ placed.later x low;
        near = omega (arith, placed.near, ap (λ (x : ℕ). count * x) sized, padding_near padded, size_near sm5 count);
      }

      -- The records leave the scratch, and of the cursor all but the output.
      pub section_placed : {s₁' : List ℕ} {to' : WriteCursor} → s₁' ≡ s₁ → to' ≡ to
          → SectionPlaced chunk edits buffers variables types sm5 buffer cursor s (set s₁' stored_at start) out out₃ to'
      section_placed kept-scratch kept-cursor =
          subst (λ (p : List ℕ × WriteCursor). SectionPlaced chunk edits buffers variables types sm5 buffer cursor s (set p.0 stored_at start) out out₃ p.1)
          (λ i. (sym kept-scratch i, sym kept-cursor i)) placed_section
