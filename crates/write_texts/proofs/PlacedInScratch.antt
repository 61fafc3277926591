-- A text placed with a pool that was lent out of the scratch: the step ran from the pools in the scratch to those that are there now, since the lent pool is
-- one of them and the others lie outside its region. One law serves the three pools.
use mathlib.Core.Path.{◌≡◌, refl, ap, sym, ◌∙◌, subst}
use mathlib.Core.List.{List, ◌++◌}
use Prim.Native.Nat.{ℕ, ◌-◌, ◌≤◌, ◌<◌}
use native.Mathlib.Omega.{arith}
use lib.ListN.{length, take, drop}
use Rattle.reflection.specs.declared.Text.{Text}
use Rattle.reflection.specs.Reflection.{TypeDesc}
use Rattle.write_spec.specs.Step.{WriteStep, unless_empty}
use Rattle.write_pool.specs.Pool.{Indexed, entries, entry_count}
use Rattle.write_texts.specs.PlacedInPool.{HasRoom, TextPool, OuterNames, InnerNames, Defaults, entries_of, with_entries, PlacedInPool}
use Rattle.write_texts.specs.Scratch.{outer_pool, inner_pool, default_pool, scratch_size, region, pools_in, PoolsReady}
use Rattle.write_texts.specs.PlacedInScratch.{room_of, start_of, end_of, words_of, Kept, TextPlaced}
use Rattle.write_texts.specs.Cursor.{Placement}
use Rattle.write_texts.proofs.Runs.{ran_like, ran_empty, ran_unless_empty}
use Rattle.write_texts.proofs.Regions.{length_region, kept_same, lent_kept, lent_region}
use Rattle.write_texts.proofs.ScratchPools.{ready_with, pools_with}

-- where the regions lie
in_order : (texts : TextPool) → start_of texts ≤ end_of texts
in_order OuterNames = omega arith
in_order InnerNames = omega arith
in_order Defaults = omega arith

in_scratch : (texts : TextPool) → end_of texts ≤ scratch_size
in_scratch OuterNames = omega arith
in_scratch InnerNames = omega arith
in_scratch Defaults = omega arith

-- what a pool of texts in the scratch holds
held : (texts : TextPool) (s : List ℕ) (types : List (TypeDesc Text × ℕ)) (tree : ℕ → TypeDesc Text) (base n : ℕ)
    → entries_of texts (pools_in s types tree base n) ≡ entries (words_of texts s)
unfolding pools_in outer_pool inner_pool default_pool
held OuterNames s types tree base n = refl
held InnerNames s types tree base n = refl
held Defaults s types tree base n = refl

module _ {chunk edits s : List ℕ} (ready : PoolsReady chunk edits s) where
  fits : (texts : TextPool) → end_of texts ≤ length s
  fits texts = omega (arith, in_scratch texts, ready.long)

  length_words : (texts : TextPool) → length (words_of texts s) ≡ end_of texts - start_of texts
  length_words texts = length_region (start_of texts) (end_of texts) s (in_order texts) (fits texts)

  indexed_words : (texts : TextPool) → Indexed chunk edits (words_of texts s)
  unfolding outer_pool inner_pool default_pool
  indexed_words OuterNames = ready.outer
  indexed_words InnerNames = ready.inner
  indexed_words Defaults = ready.defaults

  -- a pool has room where it has fewer entries than fit
  pub pool_open : (texts : TextPool) → entry_count (words_of texts s) < room_of texts → HasRoom chunk edits (words_of texts s)
  pool_open texts h = record {
    indexed = indexed_words texts;
    room = omega (arith, length_words texts, h);
    short = omega (arith, length_words texts, in_scratch texts);
  }

  -- the pool's region was lent, came back as p, and a text was placed with it
  pub placed_in_scratch : (texts : TextPool) {step : WriteStep Text Text ℕ} {at : ℕ} {out out' s' p : List ℕ} {r : Placement}
      → s' ≡ take (start_of texts) s ++ (p ++ drop (end_of texts - start_of texts) (drop (start_of texts) s))
      → PlacedInPool chunk edits texts step at (words_of texts s) p out out' r
      → TextPlaced chunk edits step at (words_of texts) (start_of texts) (end_of texts) s s' out out' r
  placed_in_scratch texts {step} {at} {out} {out'} {s'} {p} {r} back placed = record {
    ran = λ types tree base n.
        let before = pools_in s types tree base n in
        ran_like chunk edits refl
        (ap (λ (q : List ℕ). with_entries texts (entries q) before) (sym pool_is) ∙ sym (pools_with ready texts kept types tree base n)) refl
        (placed.ran before (held texts s types tree base n));
    ready = ready_with ready texts kept (subst (Indexed chunk edits) (sym pool_is) placed.pool_grown.indexed);
    kept = kept;
    count_low = omega (arith, ap entry_count pool_is, placed.pool_grown.count_low);
    count_high = omega (arith, ap entry_count pool_is, placed.pool_grown.count_high);
    near_low = placed.near_low;
    near_high = placed.near_high;
  }
    where
      long : length p ≡ end_of texts - start_of texts
      long = placed.pool_grown.long ∙ length_words texts

      kept : Kept (start_of texts) (end_of texts) s s'
      kept = lent_kept s s' p (start_of texts) (end_of texts) back (in_order texts) (fits texts) long

      pool_is : words_of texts s' ≡ p
      pool_is = lent_region s s' p (start_of texts) (end_of texts) back (in_order texts) (fits texts) long

  -- the same, where the region's bounds are known by equations
  module _ (texts : TextPool) {a b : ℕ} (from : a ≡ start_of texts) (to : b ≡ end_of texts) where
    pub pool_lent : entry_count (words_of texts s) < room_of texts → HasRoom chunk edits (take (b - a) (drop a s))
    unfolding region
    pool_lent h = rw (from, to) (pool_open texts h)

    pub text_lent : {step : WriteStep Text Text ℕ} {at : ℕ} {out out' s' p : List ℕ} {r : Placement}
        → s' ≡ take a s ++ (p ++ drop (b - a) (drop a s)) → PlacedInPool chunk edits texts step at (take (b - a) (drop a s)) p out out' r
        → TextPlaced chunk edits step at (words_of texts) (start_of texts) (end_of texts) s s' out out' r
    unfolding region
    text_lent back placed = placed_in_scratch texts (rw (from, to) at back) (rw (from, to) at placed)

  -- nothing is placed for what is empty
  pub placed_empty : {n at from to : ℕ} (step : WriteStep Text Text ℕ) {pool : List ℕ → List ℕ} {out : List ℕ} → n ≡ 0
      → TextPlaced chunk edits (unless_empty n step) at pool from to s s out out (record { offset = 0; at = at })
  placed_empty {n} {at} {from} {to} step {out = out} none = record {
    ran = λ types tree base m. ran_empty chunk edits n step at (pools_in s types tree base m) out none;
    ready = ready;
    kept = kept_same from to s;
    count_low = omega arith;
    count_high = omega arith;
    near_low = omega arith;
    near_high = omega arith;
  }

pub placed_unless_empty : {chunk edits s s' out out' : List ℕ} {n at from to : ℕ} {step : WriteStep Text Text ℕ} {pool : List ℕ → List ℕ} {r : Placement}
    → (n ≡ 0 → ⊥) → TextPlaced chunk edits step at pool from to s s' out out' r → TextPlaced chunk edits (unless_empty n step) at pool from to s s' out out' r
placed_unless_empty {chunk} {edits} {n = n} some placed = record {
  ran = λ types tree base m. ran_unless_empty chunk edits n some (placed.ran types tree base m);
  ready = placed.ready;
  kept = placed.kept;
  count_low = placed.count_low;
  count_high = placed.count_high;
  near_low = placed.near_low;
  near_high = placed.near_high;
}
