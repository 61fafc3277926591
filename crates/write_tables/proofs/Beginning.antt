-- The three pools of texts, each made empty in its own region: what is done in one region leaves the others.
use mathlib.Core.Path.{◌≡◌, ap, sym, ◌∙◌, subst}
use mathlib.Core.List.{List, [], ◌++◌}
use Prim.Native.Nat.{ℕ, ◌-◌, ◌≤◌}
use native.Mathlib.Omega.{arith}
use lib.ListN.{length, take, drop}
use Rattle.write_spec.specs.Step.{pools}
use Rattle.write_pool.specs.Pool.{Indexed, entries, entry_count, entries_start, Begun}
use Rattle.write_texts.specs.Scratch.{inner_start, defaults_start, root_types_start, scratch_size, region, outer_pool, inner_pool, default_pool}
use Rattle.write_texts.specs.Scratch.{types_from, pools_in}
use Rattle.write_texts.specs.declared.text_pool.TextPool.{TextPool}
use Rattle.write_texts.specs.PlacedInScratch.{Kept, start_of, end_of, words_of}
use Rattle.write_texts.proofs.Regions.{length_region, lent_kept, lent_region}
use Rattle.write_texts.proofs.ScratchPools.{outer_kept_before, inner_kept_before}
use Rattle.write_tables.specs.Placed.{pools_sharing}
use Rattle.write_tables.specs.Chunk.{PoolsBegun}

-- A region that was lent to be made a pool.
module _ (from to : ℕ) (s s' p : List ℕ) (order : from ≤ to) (fits : to ≤ length s) (back : s' ≡ take from s ++ (p ++ drop (to - from) (drop from s)))
    (begun : Begun (region from to s) p) where
  long : length p ≡ to - from
  long = begun.same_length ∙ length_region from to s order fits

  begun_kept : Kept from to s s'
  begun_kept = lent_kept s s' p from to back order fits long

  begun_region : region from to s' ≡ p
  begun_region = lent_region s s' p from to back order fits long

  begun_indexed : (chunk edits : List ℕ) → entries_start ≤ to - from → Indexed chunk edits p
  begun_indexed chunk edits wide = begun.indexed chunk edits (omega (arith, length_region from to s order fits))

-- A pool's region that was lent, as the pool tells where it begins and ends.
pub pool_lent : (pool : TextPool) (s p : List ℕ) {a b : ℕ} → (a ≡ start_of pool) × (b ≡ end_of pool) → Begun (take (b - a) (drop a s)) p
    → (take a s ++ (p ++ drop (b - a) (drop a s)) ≡ take (start_of pool) s ++ (p ++ drop (end_of pool - start_of pool) (drop (start_of pool) s)))
    × Begun (words_of pool s) p
unfolding region
pool_lent pool s p is begun =
    let first = is.0 in
    let last = is.1 in (
      λ i. take (first i) s ++ (p ++ drop (last i - first i) (drop (first i) s)),
      subst (λ (l : List ℕ). Begun l p) (λ i. take (last i - first i) (drop (first i) s)) begun,
    )

pub pools_begun : (s s₁ s₂ s₃ p₁ p₂ p₃ : List ℕ) → scratch_size ≤ length s
    → s₁ ≡ take 0 s ++ (p₁ ++ drop (inner_start - 0) (drop 0 s)) → Begun (outer_pool s) p₁
    → s₂ ≡ take inner_start s₁ ++ (p₂ ++ drop (defaults_start - inner_start) (drop inner_start s₁)) → Begun (inner_pool s₁) p₂
    → s₃ ≡ take defaults_start s₂ ++ (p₃ ++ drop (root_types_start - defaults_start) (drop defaults_start s₂)) → Begun (default_pool s₂) p₃
    → PoolsBegun s s₃
unfolding outer_pool inner_pool default_pool pools_sharing pools_in types_from
pools_begun s s₁ s₂ s₃ p₁ p₂ p₃ fits back₁ begun₁ back₂ begun₂ back₃ begun₃ =
    let kept₁ = begun_kept 0 inner_start s s₁ p₁ (omega arith) (omega arith) back₁ begun₁ in
    let fits₁ : scratch_size ≤ length s₁ = omega (arith, kept₁.long) in
    let kept₂ = begun_kept inner_start defaults_start s₁ s₂ p₂ (omega arith) (omega arith) back₂ begun₂ in
    let fits₂ : scratch_size ≤ length s₂ = omega (arith, kept₂.long) in
    let kept₃ = begun_kept defaults_start root_types_start s₂ s₃ p₃ (omega arith) (omega arith) back₃ begun₃ in
    let outer : outer_pool s₃ ≡ p₁ = outer_kept_before kept₃ fits₂ (omega arith) ∙ outer_kept_before kept₂ fits₁ (omega arith) ∙ begun_region 0
    inner_start s s₁ p₁ (omega arith) (omega arith) back₁ begun₁ in
    let inner : inner_pool s₃ ≡ p₂ = inner_kept_before kept₃ fits₂ (omega arith) ∙ begun_region inner_start defaults_start s₁ s₂ p₂ (omega arith)
    (omega arith) back₂ begun₂ in
    let defaults : default_pool s₃ ≡ p₃ = begun_region defaults_start root_types_start s₂ s₃ p₃ (omega arith) (omega arith) back₃ begun₃ in
    let no_outer = ap entries outer ∙ begun₁.no_entries in
    let no_inner = ap entries inner ∙ begun₂.no_entries in
    let no_defaults = ap entries defaults ∙ begun₃.no_entries in
    record {
      long = kept₃.long ∙ kept₂.long ∙ kept₁.long;
      ready = λ chunk edits.
          record {
            long = omega (arith, kept₃.long);
            outer = subst (Indexed chunk edits) (sym outer) (begun_indexed 0 inner_start s s₁ p₁ (omega arith) (omega arith) back₁ begun₁ chunk edits
                (omega arith));
            inner = subst (Indexed chunk edits) (sym inner) (begun_indexed inner_start defaults_start s₁ s₂ p₂ (omega arith) (omega arith) back₂ begun₂
                chunk edits (omega arith));
            defaults = subst (Indexed chunk edits) (sym defaults) (begun_indexed defaults_start root_types_start s₂ s₃ p₃ (omega arith) (omega arith)
                back₃ begun₃ chunk edits (omega arith));
          };
      none = λ types z. pools (no_outer z) (no_inner z) [] [] (no_defaults z);
      no_outer = ap entry_count outer ∙ begun₁.none_counted;
      no_inner = ap entry_count inner ∙ begun₂.none_counted;
      no_defaults = ap entry_count defaults ∙ begun₃.none_counted;
    }
