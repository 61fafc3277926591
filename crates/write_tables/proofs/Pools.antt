-- The pools at a place of the walk through the tables: where a text is placed they are what the step leaves, and a store behind them leaves them as they
-- are, since each pool is read off its own region.
use mathlib.Core.Path.{◌≡◌, refl, ap, sym, ◌∙◌, subst}
use mathlib.Core.List.{List, []}
use Prim.Native.Nat.{ℕ, ◌+◌, ◌-◌, ◌≤◌}
use native.Mathlib.Omega.{arith}
use lib.ListN.{length, set, length-set}
use lib.Seq.{get_or-set_other}
use Rattle.words.specs.Splice.{splice}
use Rattle.words.proofs.Splice.{length_splice}
use Rattle.words.proofs.Splice.{splice_keeps_before, splice_keeps_after}
use Rattle.reflection.specs.declared.Text.{Text}
use Rattle.reflection.specs.Reflection.{TypeDesc}
use Rattle.tables.specs.Nodes.{type_levels}
use Rattle.reflection.specs.Limits.{variable_room, type_room}
use Rattle.write_spec.specs.Step.{Pools, WriteStep}
use Rattle.write_texts.specs.Cursor.{Placement}
use Rattle.write_texts.specs.Simulates.{Simulates}
use Rattle.write_texts.specs.Scratch.{inner_start, defaults_start, root_types_start, records_start, scratch_size, inner_pool, default_pool}
use Rattle.write_texts.specs.Scratch.{types_from}
use Rattle.write_texts.specs.Scratch.{pools_in, PoolsReady}
use Rattle.write_texts.specs.PlacedInScratch.{Kept, TextPlaced}
use Rattle.write_texts.proofs.Regions.{region_agree, types_kept_before, types_kept_after}
use Rattle.write_texts.proofs.Runs.{ran_like, ran_long}
use Rattle.write_texts.proofs.ScratchPools.{pools_kept_before}
use Rattle.tables.specs.Trees.{type_tree}
use Rattle.write_tables.specs.Placed.{pools_sharing, Same}

pub same_refl : (from to : ℕ) (s : List ℕ) → Same from to s s
same_refl from to s = record { long = refl; words = λ i low high. refl }

pub same_then : {from to : ℕ} {s s₁ s₂ : List ℕ} → Same from to s s₁ → Same from to s₁ s₂ → Same from to s s₂
same_then p q = record { long = q.long ∙ p.long; words = λ i low high. q.words i low high ∙ p.words i low high }

-- A part of what stays stays; what lies after and before the region that changed stays.
pub same_part : {from to : ℕ} (from' to' : ℕ) {s s' : List ℕ} → from ≤ from' → to' ≤ to → Same from to s s' → Same from' to' s s'
same_part from' to' low high p = record { long = p.long; words = λ i l h. p.words i (omega arith) (omega arith) }

pub kept_after : {from to : ℕ} (from' to' : ℕ) {s s' : List ℕ} → to ≤ from' → Kept from to s s' → Same from' to' s s'
kept_after from' to' apart k = record { long = k.long; words = λ i low high. k.after i (omega arith) }

pub kept_before : {from to : ℕ} (from' to' : ℕ) {s s' : List ℕ} → to' ≤ from → Kept from to s s' → Same from' to' s s'
kept_before from' to' apart k = record { long = k.long; words = λ i low high. k.before i (omega arith) }

-- Pools of texts that stay.
pub inner_same : {from to : ℕ} {s s' : List ℕ} → Same from to s s' → from ≤ inner_start → defaults_start ≤ to → scratch_size ≤ length s → inner_pool s'
    ≡ inner_pool s
unfolding inner_pool
inner_same {s = s} {s'} same low high long =
    region_agree inner_start defaults_start s s' same.long (omega arith) (λ i l h. same.words i (omega arith) (omega arith))

pub defaults_same : {from to : ℕ} {s s' : List ℕ} → Same from to s s' → from ≤ defaults_start → root_types_start ≤ to → scratch_size ≤ length s
    → default_pool s' ≡ default_pool s
unfolding default_pool
defaults_same {s = s} {s'} same low high long =
    region_agree defaults_start root_types_start s s' same.long (omega arith) (λ i l h. same.words i (omega arith) (omega arith))

-- A store keeps all other words.
pub kept_set : (s : List ℕ) (k v : ℕ) → Kept k (k + 1) s (set s k v)
kept_set s k v = record {
  long = length-set s k v;
  before = λ i h. get_or-set_other s k i v 0 (λ e. omega (arith, h, e));
  after = λ i h. get_or-set_other s k i v 0 (λ e. omega (arith, h, e));
}

-- So does a run of stores.
pub kept_splice : (s : List ℕ) (k : ℕ) (xs : List ℕ) → Kept k (k + length xs) s (splice s k xs)
kept_splice s k xs = record {
  long = length_splice s k xs;
  before = λ i h. splice_keeps_before s k i xs 0 h;
  after = λ i h. splice_keeps_after s k i xs 0 h;
}

-- The same run from an equal cursor.
pub ran_from : {chunk edits : List ℕ} {A : Type 0} {step : WriteStep Text Text A} {at at' to : ℕ} {ps ps' : Pools Text Text} {out out' : List ℕ}
    {a : A} → at ≡ at' → Simulates chunk edits step at ps out out' a to ps'
    → Simulates chunk edits step at' ps out out' a to ps'
ran_from {chunk} {edits} {step = step} {to = to} {ps} {ps'} {out} {out'} {a} e ran = subst (λ x. Simulates chunk edits step x ps out out' a to ps') e ran

pub text_placed_long : {chunk edits : List ℕ} {step : WriteStep Text Text ℕ} {at from to : ℕ} {pool : List ℕ → List ℕ} {s s' out out' : List ℕ} {r : Placement}
    → TextPlaced chunk edits step at pool from to s s' out out' r → length out' ≡ length out
text_placed_long placed = ran_long (placed.ran [] (type_tree [] 0) 0 0)

module _ (types : List ℕ) where
  -- What changed lies behind the pools.
  pub pools_at_kept : {chunk edits s s' : List ℕ} {from to : ℕ} (roots n : ℕ) → PoolsReady chunk edits s → Kept from to s s' → records_start ≤ from
      → roots ≤ variable_room → n ≤ type_room
      → pools_sharing types s' roots n ≡ pools_sharing types s roots n
  unfolding pools_sharing
  pools_at_kept {s = s} {s'} roots n ready kept behind few-roots few =
      ap (λ (ts : List (TypeDesc Text × ℕ)). pools_in s' ts (type_tree types (type_levels - 1)) 0 n)
      (types_kept_before kept (type_tree types type_levels) root_types_start 0 roots (omega arith))
      ∙ pools_kept_before ready kept (omega arith) (types_from (type_tree types type_levels) root_types_start s 0 roots) (type_tree types (type_levels - 1))
      0 n (omega arith)

  -- A text was placed: its pool lies before the types.
  pub text_placed_at : {chunk edits : List ℕ} {step : WriteStep Text Text ℕ} {at from to : ℕ} {pool : List ℕ → List ℕ} {s s' out out' : List ℕ}
      {r : Placement} (roots n : ℕ)
      → TextPlaced chunk edits step at pool from to s s' out out' r → to ≤ root_types_start
      → Simulates chunk edits step at (pools_sharing types s roots n) out out' r.offset r.at (pools_sharing types s' roots n)
  unfolding pools_sharing
  text_placed_at {chunk} {edits} {s = s} {s'} roots n placed before =
      ran_like chunk edits refl
      (ap (λ (ts : List (TypeDesc Text × ℕ)). pools_in s' ts (type_tree types (type_levels - 1)) 0 n)
      (sym (types_kept_after placed.kept (type_tree types type_levels) root_types_start 0 roots before)))
      refl (placed.ran (types_from (type_tree types type_levels) root_types_start s 0 roots) (type_tree types (type_levels - 1)) 0 n)
