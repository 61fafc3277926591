-- The names of bindings and buffers, placed in a loop: each turn places one name, and its offset is stored behind those before it.
use mathlib.Core.Path.{◌≡◌, refl, ap, sym, ◌∙◌}
use mathlib.Core.List.{List, [], ◌∷◌, ◌++◌}
use Prim.Native.Nat.{ℕ, ◌+◌, ◌*◌, ◌-◌, ◌/◌, ◌≤◌, ◌<◌}
use native.Mathlib.Nat.{add-zero, zero-add, mul-le-mul_right}
use native.Mathlib.Omega.{arith}
use lib.ListN.{length, get_or, set}
use lib.Seq.{get_or-set_same}
use Rattle.reflection.specs.declared.Text.{Text}
use Rattle.tables.specs.Decode.{records_from}
use Rattle.tables.proofs.Records.{word_inside, word_outside}
use Rattle.write_spec.specs.Layout.{place_outer_name, place_outer_names}
use Rattle.write_pool.specs.Pool.{entry_count}
use Rattle.write_texts.specs.Cursor.{Placement}
use Rattle.write_texts.specs.Simulates.{text_facts}
use Rattle.write_texts.specs.Scratch.{inner_start, scratch_size, outer_pool, PoolsReady}
use Rattle.write_texts.specs.PlacedInPool.{placed_limit}
use Rattle.write_texts.specs.PlacedInScratch.{Kept, TextPlaced}
use Rattle.write_texts.proofs.ScratchPools.{ready_kept, outer_kept_before}
use Rattle.write_tables.specs.Placed.{pools_sharing, Same, name_at, stored_at, NamesReady, NamesPlaced}
use Rattle.tables.proofs.RecordLists.{records_more, records_left, records_done}
use Rattle.write_tables.proofs.Many.{SoFar, so_far_none, so_far_like, so_far_more, so_far_all}
use Rattle.write_tables.proofs.Steps.{each_outer_name}
use Rattle.write_tables.proofs.Pools.{same_refl, same_then, kept_after, kept_before, kept_set, pools_at_kept, text_placed_at, text_placed_long}

-- The name is read off the record's first three words, where the table holds the record.
pub name_inside : (width : ℕ) (table : List ℕ) (i : ℕ) → i < length table / width
    → ◌≡◌ {A = Text} (record { source = get_or table (i * width) 0; place = get_or table (i * width + 1) 0; length = get_or table (i * width + 2) 0 })
    (name_at width table i)
unfolding name_at
name_inside width table i inside =
    let first = ap (λ (k : ℕ). get_or table k 0) (sym (add-zero (i * width))) ∙ sym (word_inside width table i 0 inside) in
    let second = sym (word_inside width table i 1 inside) in
    let third = sym (word_inside width table i 2 inside) in
    λ z. record { source = first z; place = second z; length = third z }

pub name_outside : (width : ℕ) (table : List ℕ) (i : ℕ) → length table / width ≤ i → ◌≡◌ {A = Text} (record { source = 0; place = 0; length = 0 })
    (name_at width table i)
unfolding name_at
name_outside width table i outside =
    let first = sym (word_outside width table i 0 outside) in
    let second = sym (word_outside width table i 1 outside) in
    let third = sym (word_outside width table i 2 outside) in
    λ z. record { source = first z; place = second z; length = third z }

-- The loop's invariant: the first i names are placed.
pub record NamesSoFar (chunk edits : List ℕ) (names : ℕ → Text) (count start step at₀ : ℕ) (s₀ out₀ s out : List ℕ) (at i : ℕ) : Type 0 where
  pub within : i ≤ count
  pub so_far : (types : List ℕ)
      → SoFar chunk edits (place_outer_names (text_facts chunk edits)) (records_from names 0 count) at₀ (pools_sharing types s₀ 0 0) out₀
      (records_from names i (count - i)) at (pools_sharing types s 0 0) out (records_from (stored_at start step s) 0 i)
  pub ready : PoolsReady chunk edits s
  pub same : Same inner_start start s₀ s
  pub entries : entry_count (outer_pool s) ≤ entry_count (outer_pool s₀) + i
  pub near : at ≤ at₀ + i * placed_limit
  pub out_long : length out ≡ length out₀

module _ {chunk edits : List ℕ} {count start step at₀ : ℕ} {s₀ : List ℕ} (ready : NamesReady chunk edits count start step at₀ s₀) where
  pub names_none : {names : ℕ → Text} {out₀ : List ℕ} → NamesSoFar chunk edits names count start step at₀ s₀ out₀ s₀ out₀ at₀ 0
  unfolding records_from
  names_none {names} {out₀} =
      let many = place_outer_names (text_facts chunk edits) in
      let whole = ap (records_from names 0) (let e : count ≡ count - 0 = omega arith in e) in
      record {
        within = omega arith;
        so_far = λ types.
            so_far_like chunk edits many whole refl refl (so_far_none chunk edits many (records_from names 0 count) at₀ (pools_sharing types s₀ 0 0) out₀);
        ready = ready.pools;
        same = same_refl inner_start start s₀;
        entries = omega arith;
        near = omega arith;
        out_long = refl;
      }

  -- There is room for one more.
  module _ {names : ℕ → Text} {out₀ s out : List ℕ} {at i : ℕ}
      (inv : NamesSoFar chunk edits names count start step at₀ s₀ out₀ s out at i) (more : i < count) where
    offset_below : start + i * step < scratch_size
    offset_below = omega (arith, mul-le-mul_right step (let h : i + 1 ≤ count = omega arith in h), ready.apart, ready.inside)

    offset_inside : start + i * step < length s
    offset_inside = omega (arith, offset_below, inv.ready.long)

    pub names_more : {s₁ out₁ : List ℕ} {spot : Placement} {name : Text} → name ≡ names i
        → TextPlaced chunk edits (place_outer_name (text_facts chunk edits) name) at outer_pool 0 inner_start s s₁ out out₁ spot
        → NamesSoFar chunk edits names count start step at₀ s₀ out₀ (set s₁ (start + i * step) spot.offset) out₁ spot.at (i + 1)
    unfolding records_from stored_at
    names_more {s₁} {out₁} {spot} {name} is placed =
        let many = place_outer_names (text_facts chunk edits) in
        let left = records_left names i count more ∙ ap (λ (x : Text). x ∷ records_from names (i + 1) (count - (i + 1))) (sym is) in
        let behind : inner_start ≤ start = omega (arith, ready.stored) in
        record {
          within = omega arith;
          so_far = λ types.
              let pools = pools_at_kept types 0 0 placed.ready kept (omega (arith, ready.stored)) (omega arith) (omega arith) in
              so_far_like chunk edits many refl (sym pools) stored
              (so_far_more chunk edits many (each_outer_name chunk edits) (so_far_like chunk edits many left refl refl (inv.so_far types))
              (text_placed_at types 0 0 placed (omega arith)));
          ready = ready_kept placed.ready kept (omega (arith, ready.stored));
          same =
              same_then inv.same
              (same_then (kept_after inner_start start (omega arith) placed.kept) (kept_before inner_start start (omega arith) kept));
          entries =
              let outer = ap entry_count (outer_kept_before kept placed.ready.long (omega (arith, ready.stored))) in
              omega (arith, outer, placed.count_high, inv.entries);
          near = omega (arith, placed.near_high, inv.near);
          out_long = text_placed_long placed ∙ inv.out_long;
        }
      where
        s₂ : List ℕ
        s₂ = set s₁ (start + i * step) spot.offset

        kept : Kept (start + i * step) (start + i * step + 1) s₁ s₂
        kept = kept_set s₁ (start + i * step) spot.offset

        earlier : (j : ℕ) → 0 ≤ j → j < 0 + i → stored_at start step s j ≡ stored_at start step s₂ j
        earlier j low high =
            let before = mul-le-mul_right step (let h : j + 1 ≤ i = omega arith in h) in
            sym (placed.kept.after (start + j * step) (omega (arith, ready.stored)))
            ∙ sym (kept.before (start + j * step) (omega (arith, ready.apart, before)))

        last : spot.offset ≡ stored_at start step s₂ (0 + i)
        last =
            let inside : start + i * step < length s₁ = omega (arith, offset_inside, placed.kept.long) in
            sym (ap (stored_at start step s₂) (zero-add i) ∙ get_or-set_same s₁ (start + i * step) spot.offset 0 inside)

        stored : records_from (stored_at start step s) 0 i ++ (spot.offset ∷ []) ≡ records_from (stored_at start step s₂) 0 (i + 1)
        stored = records_more (stored_at start step s) (stored_at start step s₂) 0 i spot.offset earlier last

pub names_all : {chunk edits : List ℕ} {names : ℕ → Text} {count start step at₀ : ℕ} {s₀ out₀ s out : List ℕ} {at i : ℕ}
    → NamesSoFar chunk edits names count start step at₀ s₀ out₀ s out at i → count ≤ i
    → NamesPlaced chunk edits names count start step at₀ s₀ s out₀ out at
names_all {chunk} {edits} {names} {count} {start} {step} {s = s} {i = i} inv all =
    let e : i ≡ count = omega (arith, inv.within) in
    let many = place_outer_names (text_facts chunk edits) in
    let stored = ap (records_from (stored_at start step s) 0) e in
    record {
      ran = λ types.
          so_far_all chunk edits many (each_outer_name chunk edits)
          (so_far_like chunk edits many (records_done names i count all) refl stored (inv.so_far types));
      ready = inv.ready;
      same = inv.same;
      entries = omega (arith, inv.entries, e);
      near = omega (arith, inv.near, e);
    }
