-- The pools in the scratch when only one of its regions changed: the pools of texts in the other regions are what they were, and so are the entries of
-- types. Each of them is read off its own region's words alone.
use mathlib.Core.Path.{◌≡◌, refl, sym, subst}
use mathlib.Core.List.{List}
use Prim.Native.Nat.{ℕ, ◌+◌, ◌*◌, ◌≤◌}
use native.Mathlib.Omega.{arith}
use lib.ListN.{length}
use Rattle.reflection.specs.declared.Text.{Text}
use Rattle.reflection.specs.Reflection.{TypeDesc}
use Rattle.write_spec.specs.Step.{pools}
use Rattle.write_pool.specs.Pool.{Indexed, entries}
use Rattle.write_texts.specs.PlacedInPool.{TextPool, OuterNames, InnerNames, Defaults, with_entries}
use Rattle.write_texts.specs.Scratch.{outer_pool, inner_pool, default_pool, types_from, pools_in, PoolsReady}
use Rattle.write_texts.specs.Scratch.{shared_width, inner_start, defaults_start, root_types_start, member_types_start, scratch_size}
use Rattle.write_texts.specs.PlacedInScratch.{start_of, end_of, words_of, Kept}
use Rattle.write_texts.proofs.Regions.{region_kept_before, region_kept_after, types_kept_before, types_kept_after}

module _ {from to : ℕ} {s s' : List ℕ} (kept : Kept from to s s') (long : scratch_size ≤ length s) where
  -- each pool of texts, where what changed lies before it or after it
  pub outer_kept_before : inner_start ≤ from → outer_pool s' ≡ outer_pool s
  unfolding outer_pool
  outer_kept_before h = region_kept_before kept 0 inner_start h (omega arith)

  pub inner_kept_after : to ≤ inner_start → inner_pool s' ≡ inner_pool s
  unfolding inner_pool
  inner_kept_after h = region_kept_after kept inner_start defaults_start h (omega arith)

  pub inner_kept_before : defaults_start ≤ from → inner_pool s' ≡ inner_pool s
  unfolding inner_pool
  inner_kept_before h = region_kept_before kept inner_start defaults_start h (omega arith)

  pub defaults_kept_after : to ≤ defaults_start → default_pool s' ≡ default_pool s
  unfolding default_pool
  defaults_kept_after h = region_kept_after kept defaults_start root_types_start h (omega arith)

  pub defaults_kept_before : root_types_start ≤ from → default_pool s' ≡ default_pool s
  unfolding default_pool
  defaults_kept_before h = region_kept_before kept defaults_start root_types_start h (omega arith)

  pub length_kept : scratch_size ≤ length s'
  length_kept = omega (arith, kept.long)

-- the pools in the scratch, put together from what is read off each region
module _ (s' : List ℕ) (types : List (TypeDesc Text × ℕ)) (tree : ℕ → TypeDesc Text) (base n : ℕ) where
  pub pools_from : {outer inner defaults : List ℕ} {members : List (TypeDesc Text × ℕ)} → outer_pool s' ≡ outer → inner_pool s' ≡ inner
      → default_pool s' ≡ defaults → types_from tree member_types_start s' base n ≡ members
      → pools_in s' types tree base n ≡ pools (entries outer) (entries inner) types members (entries defaults)
  unfolding pools_in
  pools_from outer inner defaults members = λ i. pools (entries (outer i)) (entries (inner i)) types (members i) (entries (defaults i))

-- a pool whose words are what they were is in order
still : {chunk edits pool pool' : List ℕ} → pool' ≡ pool → Indexed chunk edits pool → Indexed chunk edits pool'
still {chunk} {edits} same indexed = subst (Indexed chunk edits) (sym same) indexed

module _ {chunk edits s s' : List ℕ} (ready : PoolsReady chunk edits s) where
  -- the region of one pool of texts changed, and that pool is in order
  pub ready_with : (texts : TextPool) → Kept (start_of texts) (end_of texts) s s' → Indexed chunk edits (words_of texts s') → PoolsReady chunk edits s'
  unfolding outer_pool inner_pool default_pool
  ready_with OuterNames kept indexed = record {
    long = length_kept kept ready.long;
    outer = indexed;
    inner = still (inner_kept_after kept ready.long (omega arith)) ready.inner;
    defaults = still (defaults_kept_after kept ready.long (omega arith)) ready.defaults;
  }
  ready_with InnerNames kept indexed = record {
    long = length_kept kept ready.long;
    outer = still (outer_kept_before kept ready.long (omega arith)) ready.outer;
    inner = indexed;
    defaults = still (defaults_kept_after kept ready.long (omega arith)) ready.defaults;
  }
  ready_with Defaults kept indexed = record {
    long = length_kept kept ready.long;
    outer = still (outer_kept_before kept ready.long (omega arith)) ready.outer;
    inner = still (inner_kept_before kept ready.long (omega arith)) ready.inner;
    defaults = indexed;
  }

  pub pools_with : (texts : TextPool) → Kept (start_of texts) (end_of texts) s s' → (types : List (TypeDesc Text × ℕ)) (tree : ℕ → TypeDesc Text) (base n : ℕ)
      → pools_in s' types tree base n ≡ with_entries texts (entries (words_of texts s')) (pools_in s types tree base n)
  unfolding pools_in outer_pool inner_pool default_pool
  pools_with OuterNames kept types tree base n =
      pools_from s' types tree base n refl (inner_kept_after kept ready.long (omega arith)) (defaults_kept_after kept ready.long (omega arith))
      (types_kept_after kept tree member_types_start base n (omega arith))
  pools_with InnerNames kept types tree base n =
      pools_from s' types tree base n (outer_kept_before kept ready.long (omega arith)) refl (defaults_kept_after kept ready.long (omega arith))
      (types_kept_after kept tree member_types_start base n (omega arith))
  pools_with Defaults kept types tree base n =
      pools_from s' types tree base n (outer_kept_before kept ready.long (omega arith)) (inner_kept_before kept ready.long (omega arith)) refl
      (types_kept_after kept tree member_types_start base n (omega arith))

  -- what lies behind the pools of texts changed
  module _ {from to : ℕ} (kept : Kept from to s s') (behind : root_types_start ≤ from) where
    pub ready_kept : PoolsReady chunk edits s'
    ready_kept = record {
      long = length_kept kept ready.long;
      outer = still (outer_kept_before kept ready.long (omega arith)) ready.outer;
      inner = still (inner_kept_before kept ready.long (omega arith)) ready.inner;
      defaults = still (defaults_kept_before kept ready.long behind) ready.defaults;
    }

    -- entries of types that lie before what changed
    pub pools_kept_before : (types : List (TypeDesc Text × ℕ)) (tree : ℕ → TypeDesc Text) (base n : ℕ) → member_types_start + (base + n) * shared_width ≤ from
        → pools_in s' types tree base n ≡ pools_in s types tree base n
    unfolding pools_in
    pools_kept_before types tree base n h =
        pools_from s' types tree base n (outer_kept_before kept ready.long (omega arith)) (inner_kept_before kept ready.long (omega arith))
        (defaults_kept_before kept ready.long behind) (types_kept_before kept tree member_types_start base n h)
