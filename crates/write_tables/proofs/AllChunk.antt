-- The whole chunk, from what the calls did in turn: the bindings' names and records, the buffers, the creator, padding, and the header. What was put is
-- the layout of the reflection that the tables hold, over places, and that is its canonical form, over bytes.
use mathlib.Core.Path.{◌≡◌, refl, ap, sym, ◌∙◌, subst}
use mathlib.Core.Bool.{Bool, true, false}
use mathlib.Core.List.{List, [], ◌∷◌, map}
use mathlib.Core.Logic.{◌⊎◌}
use Prim.Native.Nat.{ℕ, ◌+◌, ◌*◌, ◌≤◌}
use native.Mathlib.Nat.{zero-add, mul-one, mul-le-mul_left}
use native.Mathlib.Omega.{arith}
use lib.ListN.{length, get_or, replicate, length-map}
use Rattle.words.specs.Splice.{Put}
use Rattle.reflection.specs.declared.Text.{Text}
use Rattle.reflection.specs.declared.ResourceDef.{ResourceDef as Header}
use Rattle.reflection.specs.Reflection.{ResourceBinding, ResourceDef, Rd11, is_sm5, is_wide}
use Rattle.reflection.specs.Texts.{text_bytes}
use Rattle.reflection.specs.Contents.{contents}
use Rattle.tables.specs.Records.{binding_width, binding_at}
use Rattle.tables.specs.Decode.{records_from, binding_from_table}
use Rattle.reflection.specs.Rd11.{rd11_from_header}
use Rattle.reflection.specs.Limits.{binding_room}
use Rattle.write_spec.specs.Step.{pools, padding_at}
use Rattle.write_spec.specs.Records.{Section, rows, binding_words_in_chunk, binding_size, rd11_words, header_words_in_chunk, header_word_count}
use Rattle.write_spec.specs.Layout.{place_outer_names, place_inner_name, layout}
use Rattle.write_spec.specs.Canonical.{canonical}
use Rattle.write_spec.proofs.Natural.{canonical_through}
use Rattle.write_pool.specs.Pool.{entry_count}
use Rattle.write_texts.specs.Cursor.{Placement, WriteCursor}
use Rattle.write_texts.specs.Simulates.{Simulates, text_facts, cell_bytes}
use Rattle.write_texts.specs.Bytes.{joined_bytes}
use Rattle.write_texts.specs.Scratch.{inner_start, defaults_start, bindings_start, inner_pool}
use Rattle.write_texts.specs.PlacedInScratch.{TextPlaced}
use Rattle.write_texts.proofs.Runs.{ran_like, ran_step}
use Rattle.tables.specs.TableReflection.{buffer_in_table, reflection_in_tables, Sized}
use Rattle.write_tables.specs.Offsets.{buffer_name, buffer_section, binding_name, rows_from, binding_row, header_row}
use Rattle.write_tables.specs.Placed.{pools_sharing, name_at, stored_at, NamesReady, NamesPlaced}
use Rattle.write_tables.specs.BuffersPlaced.{BuffersReady, BuffersPlaced, beginning}
use Rattle.write_tables.specs.Chunk.{TooLong, PoolsBegun, ChunkWritten}
use Rattle.write_tables.proofs.Lists.{rows_records}
use Rattle.tables.proofs.RecordLists.{length_records, map_records, same_records}
use Rattle.write_tables.proofs.Steps.{ran_chunk}
use Rattle.write_tables.proofs.Pools.{inner_same, defaults_same, ran_from, text_placed_at}

-- The bindings' names, and the words of their records.
binding_names : (bindings : List ℕ) (n : ℕ) → records_from (name_at binding_width bindings) 0 n ≡ map (λ b. b.name)
    (map binding_from_table (records_from (binding_at bindings) 0 n))
unfolding name_at binding_from_table binding_at
binding_names bindings n =
    sym (ap (map (λ (b : ResourceBinding Text). b.name)) (map_records binding_from_table (binding_at bindings) 0 n) ∙ map_records
    (λ (b : ResourceBinding Text). b.name) (λ i. binding_from_table (binding_at bindings i)) 0 n)

binding_rows_lem : (wide : Bool) (bindings s : List ℕ) (n : ℕ)
    → rows (binding_words_in_chunk wide) (map binding_from_table (records_from (binding_at bindings) 0 n)) (records_from (binding_name s) 0 n) ≡ rows_from
    (binding_row wide bindings s) 0 n
unfolding binding_row
binding_rows_lem wide bindings s n =
    ap (λ (l : List (ResourceBinding Text)). rows (binding_words_in_chunk wide) l (records_from (binding_name s) 0 n))
    (map_records binding_from_table (binding_at bindings) 0 n)
    ∙ rows_records (binding_words_in_chunk wide) (λ i. binding_from_table (binding_at bindings i)) (binding_name s) 0 n

binding_stored : (s : List ℕ) (n : ℕ) → records_from (stored_at bindings_start 1 s) 0 n ≡ records_from (binding_name s) 0 n
unfolding stored_at binding_name
binding_stored s n = same_records (stored_at bindings_start 1 s) (binding_name s) 0 n (λ i low high. ap (λ (x : ℕ). get_or s (bindings_start + x) 0) (mul-one i))

length_bindings : (bindings : List ℕ) (n : ℕ) → length (map binding_from_table (records_from (binding_at bindings) 0 n)) ≡ n
length_bindings bindings n = length-map (records_from (binding_at bindings) 0 n) binding_from_table ∙ length_records (binding_at bindings) 0 n

-- A header or a binding's record is at most as long as the longer.
header_most : {size : ℕ} (sm5 : Bool) → size ≡ header_word_count sm5 → size ≤ header_word_count true
header_most false sized = omega (arith, sized)
header_most true sized = omega (arith, sized)

binding_most : {size : ℕ} (wide : Bool) → size ≡ binding_size wide → size ≤ binding_size true
binding_most false sized = omega (arith, sized)
binding_most true sized = omega (arith, sized)

-- There is room at each call.
pub header_near : {size : ℕ} (sm5 : Bool) → size ≡ header_word_count sm5 → 4 * size ≤ 100000
header_near sm5 sized = omega (arith, header_most sm5 sized)

pub bindings_behind : {h : Header} {buffers types : List ℕ} {size : ℕ} (wide : Bool) → Sized h buffers types → size ≡ binding_size wide
    → h.binding_count * size ≤ binding_room * binding_size true
bindings_behind {h} wide sized binding-sized = omega (arith, mul-le-mul_left h.binding_count (binding_most wide binding-sized), sized.few_bindings)

module _ {h : Header} {buffers types : List ℕ} {chunk edits s s₀ : List ℕ} {hsize bsize : ℕ} (sm5 wide : Bool) (sized : Sized h buffers types)
    (begun : PoolsBegun s s₀) (header-sized : hsize ≡ header_word_count sm5) (binding-sized : bsize ≡ binding_size wide) where
  pub names_ready : NamesReady chunk edits h.binding_count bindings_start 1 (4 * hsize + 4 * (h.binding_count * bsize)) s₀
  names_ready = record {
    pools = begun.ready chunk edits;
    stored = omega arith;
    apart = omega arith;
    inside = omega (arith, sized.few_bindings);
    entries = omega (arith, begun.no_outer, sized.few_bindings);
    output = omega (arith, header_most sm5 header-sized, bindings_behind wide sized binding-sized, sized.few_bindings);
  }

  module _ (bindings : List ℕ) {s₁ out out₁ : List ℕ} {at₁ : ℕ}
      (named : NamesPlaced chunk edits (name_at binding_width bindings) h.binding_count bindings_start 1
      (4 * hsize + 4 * (h.binding_count * bsize)) s₀ s₁ out out₁ at₁) where
    pub buffers_ready : {mid : WriteCursor} {s₁' : List ℕ} → mid ≡ beginning at₁ → s₁' ≡ s₁
        → BuffersReady chunk edits buffers types h.buffer_count mid s₁'
    buffers_ready {mid} is kept =
        let long = (begun.ready chunk edits).long in
        subst (λ x. BuffersReady chunk edits buffers types h.buffer_count mid x) (sym kept)
        (subst (λ x. BuffersReady chunk edits buffers types h.buffer_count x s₁) (sym is) (record {
          no_types = refl;
          pools = named.ready;
          nothing = record {
            no_names = omega (arith, ap entry_count (inner_same named.same (omega arith) (omega arith) long), begun.no_inner);
            no_defaults = omega (arith, ap entry_count (defaults_same named.same (omega arith) (omega arith) long), begun.no_defaults);
            names_room = omega (arith, named.entries, begun.no_outer, sized.few_bindings, sized.few_buffers);
            output = omega (arith, named.near, header_most sm5 header-sized, bindings_behind wide sized binding-sized, sized.few_bindings);
          };
          fit = record { few_variables = sized.few_variables; few_nodes = sized.few_nodes };
          few_buffers = sized.few_buffers;
        }))

    module _ {variables : List ℕ} (is-sm5 : sm5 ≡ is_sm5 (rd11_from_header h)) (is_IsWide : wide ≡ is_wide (rd11_from_header h))
        {s₁' s₂ s₃ out₂ out₃ out₄ out₅ out₆ : List ℕ} {e₁ e₂ end : ℕ} {b c : Placement}
        (bound : Put out₁ (4 * hsize) (joined_bytes (rows_from (binding_row wide bindings s₁) 0 h.binding_count)) out₂ e₁)
        (kept : s₁' ≡ s₁) (placed : BuffersPlaced chunk edits buffers variables types sm5 h.buffer_count at₁ s₁' s₂ out₂ out₃ b)
        (created : TextPlaced chunk edits (place_inner_name (text_facts chunk edits) h.creator) b.at inner_pool inner_start defaults_start s₂ s₃ out₃ out₄ c)
        (padded : Put out₄ c.at (replicate (padding_at c.at) 0xab) out₅ end)
        (headed : Put out₅ 0 (joined_bytes (header_row h b.offset c.offset)) out₆ e₂) where
      abbrev r : ResourceDef Text Text
      r = reflection_in_tables h bindings buffers variables types

      abbrev n : ℕ
      n = h.binding_count

      abbrev bs : List (ResourceBinding Text)
      bs = map binding_from_table (records_from (binding_at bindings) 0 n)

      abbrev sections : List (ℕ × Section)
      sections = records_from (λ i. (buffer_name s₂ i, buffer_section buffers s₂ i)) 0 h.buffer_count

      abbrev x : Rd11
      x = rd11_from_header h

      header_at : 4 * hsize ≡ 0 + 4 * header_word_count (is_sm5 x)
      header_at = ap (λ (k : ℕ). 4 * k) (header-sized ∙ ap header_word_count is-sm5) ∙ sym (zero-add (4 * header_word_count (is_sm5 x)))

      bindings_at : 4 * hsize + 4 * (n * bsize) ≡ 0 + 4 * header_word_count (is_sm5 x) + 4
          * (length bs * binding_size (is_wide x))
      bindings_at =
          let l = sym (length_bindings bindings n) in
          let z = binding-sized ∙ ap binding_size is_IsWide in
          λ i. header_at i + 4 * (l i * z i)

      named_ran : Simulates chunk edits (place_outer_names (text_facts chunk edits) (map (λ b. b.name) bs))
          (0 + 4 * header_word_count (is_sm5 x) + 4 * (length bs * binding_size (is_wide x)))
          (pools [] [] [] [] []) out out₁ (records_from (binding_name s₁) 0 n) at₁ (pools_sharing types s₁ 0 0)
      named_ran =
          ran_from bindings_at (ran_step chunk edits (ap (place_outer_names (text_facts chunk edits)) (binding_names bindings n))
          (ran_like chunk edits (begun.none types) refl (binding_stored s₁ n) (named.ran types)))

      all_rows : rows (binding_words_in_chunk (is_wide x)) bs
          (records_from (binding_name s₁) 0 n) ≡ rows_from (binding_row (is_wide x) bindings s₁) 0 n
      all_rows = binding_rows_lem (is_wide x) bindings s₁ n

      written : Put out₁ (0 + 4 * header_word_count (is_sm5 x)) (joined_bytes
          (rows (binding_words_in_chunk (is_wide x)) bs (records_from (binding_name s₁) 0 n)))
          out₂ e₁
      written =
          let words = ap (λ (w : Bool). rows_from (binding_row w bindings s₁) 0 n) is_IsWide ∙ sym all_rows in
          subst (λ (p : ℕ × List ℕ). Put out₁ p.0 (joined_bytes p.1) out₂ e₁) (λ i. (header_at i, words i)) bound

      header_is : header_row h b.offset c.offset ≡ header_words_in_chunk r (record { buffers = b.offset; sections = sections; creator = c.offset })
      unfolding header_row header_words_in_chunk reflection_in_tables
      header_is =
          let l = sym (length_bindings bindings n) in
          let m = sym (length_records (buffer_in_table buffers variables types) 0 h.buffer_count) in
          λ i. m i ∷ b.offset ∷ l i ∷ 4 * header_word_count (is_sm5 x) ∷ h.target_version ∷ h.compile_flags ∷ c.offset ∷ rd11_words x

      laid_out : Put out 0 (cell_bytes chunk edits (layout (text_facts chunk edits) r).cells) out₆ end ⊎ TooLong
          (cell_bytes chunk edits (layout (text_facts chunk edits) r).cells) out out₆ end
      unfolding reflection_in_tables
      laid_out =
          ran_chunk chunk edits r named_ran written
          (subst (λ (p : Bool × List ℕ). BuffersPlaced chunk edits buffers variables types p.0 h.buffer_count at₁ p.1 s₂ out₂ out₃ b)
          (λ i. (is-sm5 i, kept i)) placed).ran
          (text_placed_at types placed.after.root_types placed.after.member_types created (omega arith)) padded
          (subst (λ w. Put out₅ 0 (joined_bytes w) out₆ e₂) header_is headed)

      is_canonical : cell_bytes chunk edits (layout (text_facts chunk edits) r).cells ≡ canonical (contents chunk edits r)
      unfolding cell_bytes text_facts contents
      is_canonical = sym (canonical_through (text_bytes chunk edits) (text_bytes chunk edits) r)

      pub chunk_written : ChunkWritten chunk edits h bindings buffers variables types s s₃ out out₆ end
      chunk_written = record {
        written = subst (λ bytes. Put out 0 bytes out₆ end ⊎ TooLong bytes out out₆ end) is_canonical laid_out;
        long = created.kept.long ∙ placed.long ∙ ap length kept ∙ named.same.long ∙ begun.long;
      }
