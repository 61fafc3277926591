-- Words of which the first 1,025 are 0 are a pool without entries: the count is 0, and so is every bucket's link.
use mathlib.Core.Path.{◌≡◌, sym, ap, subst, ◌∙◌}
use mathlib.Core.List.{List, ◌++◌}
use Prim.Native.Nat.{ℕ, ◌+◌, ◌<◌, min}
use native.Mathlib.Omega.{arith}
use native.Mathlib.Decide.{dec_lt}
use lib.ListN.{length, get_or, take, drop, replicate, length-append, length-drop, length-replicate, get_or-replicate, get_or-append}
use lib.ListN.{get_or-eq_default}
use lib.Seq.{length-take-le}
use Rattle.write_pool.specs.Pool.{entries_start, entries_below, entry_count, entries, newest, Begun}

pub emptied_is_begun : (before after : List ℕ) → length after ≡ length before → ((k : ℕ) → k < entries_start → get_or after k 0 ≡ 0) → Begun before after
unfolding entry_count entries entries_below newest
emptied_is_begun before after same zeros =
    let none : entry_count after ≡ 0 = zeros 0 (omega arith) in
    record {
      same_length = same;
      no_entries = ap (entries_below after) none;
      none_counted = none;
      indexed = λ chunk edits room. record {
        long = omega arith;
        heads = λ b small. zeros (1 + b) (omega arith) ∙ ap (newest chunk edits after b) (sym none);
        links = λ i below. absurd (omega arith);
      };
    }

-- the first words, as many of 1,025 as there are, set to 0
module _ (p : List ℕ) (n : ℕ) (e : n ≡ min (length p) entries_start) where
  pub length_emptied : length (replicate n 0 ++ drop n p) ≡ length p
  length_emptied = omega (arith, length-append (replicate n 0) (drop n p), length-replicate {A = ℕ} n 0, length-drop n p)

  pub emptied_words : (k : ℕ) → k < entries_start → get_or (replicate n 0 ++ drop n p) k 0 ≡ 0
  emptied_words k h =
      elim (dec_lt k n) [
        | yes inside ↦ get_or-append (replicate n 0) (drop n p) 0 k (omega (arith, length-replicate {A = ℕ} n 0)) ∙ get_or-replicate n k 0 0 inside
        | no outside ↦ get_or-eq_default (replicate n 0 ++ drop n p) 0 (omega (arith, length_emptied))
      ]

  pub emptied_begun : Begun p (replicate n 0 ++ drop n p)
  emptied_begun = emptied_is_begun p (replicate n 0 ++ drop n p) length_emptied emptied_words

  -- the same, as a part that was filled and put back
  pub emptied_part_begun : (part : List ℕ) → part ≡ replicate (length (take n p)) 0 → Begun p (part ++ drop n p)
  emptied_part_begun part cleared =
      let words : part ≡ replicate n 0 = cleared ∙ ap (λ (k : ℕ). replicate k 0) (length-take-le n p (omega arith)) in
      subst (λ (q : List ℕ). Begun p (q ++ drop n p)) (sym words) emptied_begun
