-- Looking a type up among the entries of a region, newest first: each turn leaves one entry less, and the first equal one is found. Past the limit nothing is
-- looked up.
use Rattle.std.specs.Prelude.{◌&&◌, eqb, Option, None, Some, cond, ltb}
use mathlib.Core.Logic.{◌⊎◌, inl, inr}
use Rattle.std.proofs.lemmas.Option.{none-some}
use mathlib.Core.Path.{◌≡◌, refl, sym, ap, ◌∙◌}
use mathlib.Core.Bool.{Bool, true, false}
use mathlib.Core.List.{List, [], ◌∷◌}
use Prim.Native.Nat.{ℕ, zero, suc, ◌+◌, ◌*◌, ◌-◌, ◌/◌, ◌≤◌, ◌<◌}
use native.Mathlib.Omega.{arith}
use borrow.Author.Tests.{eq-eqb, ne_eqb, ltb-true}
use lib.ListN.{length, get_or, take, drop, length-drop}
use lib.Seq.{get_or-take, get_or-drop, length-take-le}
use Rattle.std.specs.Simd.{first_chunks}
use Rattle.tables.proofs.Records.{row_of_table}
use Rattle.reflection.specs.declared.Text.{Text}
use Rattle.reflection.specs.declared.TypeDesc.{TypeDesc as TypeRecord}
use Rattle.reflection.specs.Reflection.{TypeDesc}
use Rattle.tables.specs.Records.{type_at}
use Rattle.tables.specs.Decode.{node_from_table}
use Rattle.write_spec.specs.Step.{find}
use Rattle.write_spec.specs.Same.{same_type}
use Rattle.write_texts.specs.Simulates.{chunk_limit}
use Rattle.write_texts.specs.Scratch.{shared_width, types_from}
use Rattle.tables.specs.Trees.{node_at, type_tree}
use Rattle.compare_types.specs.Same.{same_name}
use Rattle.write_types.specs.Writing.{only_if}
use Rattle.write_types.specs.TypePlaced.{type_offset, shared_offset, known_offset}

-- The newest of `count` entries, which the code takes as pairs: its node and its offset.
module _ {pairs : List (List ℕ)} (s : List ℕ) (are : pairs ≡ first_chunks shared_width (length s / shared_width) s) where
  pair_word : (n k at : ℕ) → n < length s / shared_width → k < shared_width → n * shared_width + k ≡ at → get_or (get_or pairs n []) k 0 ≡ get_or s at 0
  pair_word n k at there h is =
      ap (λ (rows : List (List ℕ)). get_or (get_or rows n []) k 0) are
      ∙ ap (λ (row : List ℕ). get_or row k 0) (row_of_table shared_width (length s / shared_width) s n [] there)
      ∙ get_or-take shared_width (drop (n * shared_width) s) k 0 h
      ∙ get_or-drop (n * shared_width) s k 0
      ∙ ap (λ (j : ℕ). get_or s j 0) is

  pub newest_pair : {count : ℕ} → 0 < count → count ≤ length pairs → length pairs ≡ length s / shared_width
      → (get_or (get_or pairs (count - 1) []) 0 0 ≡ get_or s (0 + (0 + (count - 1)) * shared_width) 0)
      × (get_or (get_or pairs (count - 1) []) 1 0 ≡ get_or s (0 + (0 + (count - 1)) * shared_width + 1) 0)
  newest_pair {count} some_left few long = (
    pair_word (count - 1) 0 (0 + (0 + (count - 1)) * shared_width) (omega (arith, some_left, few, long)) (omega arith) (omega arith),
    pair_word (count - 1) 1 (0 + (0 + (count - 1)) * shared_width + 1) (omega (arith, some_left, few, long)) (omega arith) (omega arith),
  )

module _ (chunk edits types : List ℕ) (levels node : ℕ) (s : List ℕ) (start base : ℕ) where
  abbrev same_as : TypeDesc Text → Bool
  same_as = same_type (same_name chunk edits) (type_tree types levels node)

  -- The newest of `count` entries, where there are some: its place, as the code counts it, and the node there.
  module _ (count : ℕ) (some_left : 0 < count) where
    abbrev place : ℕ → ℕ
    place n = start + (base + (n - 1)) * shared_width

    newest : (n : ℕ) → 0 < n → types_from (type_tree types levels) start s base n
        ≡ (type_tree types levels (get_or s (place n) 0), get_or s (place n + 1) 0) ∷ types_from (type_tree types levels) start s base (n - 1)
    unfolding types_from
    newest zero h = absurd (omega (arith, h))
    newest (suc n) h =
        let less : suc n - 1 ≡ n = omega arith in
        rw less

    module _ {other offset : ℕ} (node-is : other ≡ get_or s (place count) 0) (offset-is : offset ≡ get_or s (place count + 1) 0) where
      newest_is : types_from (type_tree types levels) start s base count
          ≡ (type_tree types levels other, offset) ∷ types_from (type_tree types levels) start s base (count - 1)
      newest_is =
          newest count some_left
          ∙ λ i. (type_tree types levels (sym node-is i), sym offset-is i) ∷ types_from (type_tree types levels) start s base (count - 1)

      pub newest_found : same_as (type_tree types levels other) ≡ true → type_offset chunk edits types levels node s start base count ≡ Some offset
      unfolding type_offset find
      newest_found e = ap (find same_as) newest_is ∙ rw e

      pub newest_other : same_as (type_tree types levels other) ≡ false
          → type_offset chunk edits types levels node s start base count ≡ type_offset chunk edits types levels node s start base (count - 1)
      unfolding type_offset find
      newest_other e = ap (find same_as) newest_is ∙ rw e

  pub none_left : (count : ℕ) → count ≤ 0 → type_offset chunk edits types levels node s start base count ≡ None
  unfolding type_offset find types_from
  none_left zero h = refl
  none_left (suc count) h = absurd (omega (arith, h))

  -- Where the type may be shared, and where it may not.
  module _ (count : ℕ) {desc : TypeRecord} (is-desc : desc ≡ type_at types node) where
    pub shared_looks : (share : Bool) → share ≡ true → desc.elements ≡ 0
        → shared_offset share chunk edits types levels node s start base count ≡ type_offset chunk edits types levels node s start base count
    unfolding shared_offset node_at node_from_table
    shared_looks share e z =
        rw (e, eq-eqb (type_at types node).elements 0 (ap (λ (x : TypeRecord). x.elements) (sym is-desc) ∙ z))

    pub array_fresh : (share : Bool) → (desc.elements ≡ 0 → ⊥) → shared_offset share chunk edits types levels node s start base count ≡ None
    unfolding shared_offset node_at node_from_table
    array_fresh true d = rw (ne_eqb (type_at types node).elements 0 (λ e. d (ap (λ (x : TypeRecord). x.elements) is-desc ∙ e)))
    array_fresh false d = refl

  pub unshared_fresh : (count : ℕ) (share : Bool) → share ≡ false → shared_offset share chunk edits types levels node s start base count ≡ None
  unfolding shared_offset
  unshared_fresh count share e = rw e

  -- Where the type is not to be written, and where it is.
  module _ (count at : ℕ) (share : Bool) {known : Option ℕ} (is_known : known ≡ known_offset share chunk edits types levels node s start base count at) where
    abbrev looked-up : Option ℕ
    looked-up = shared_offset share chunk edits types levels node s start base count

    known_by : (past : Bool) → ltb chunk_limit at ≡ past → known ≡ cond past (Some 0) looked-up
    unfolding known_offset
    known_by past e = is_known ∙ ap (λ (b : Bool). cond b (Some 0) looked-up) e

    pub known_some : {offset : ℕ} → known ≡ Some offset → (chunk_limit < at) ⊎ (looked-up ≡ Some offset)
    known_some {offset} found = go (ltb chunk_limit at) refl
      where
        go : (past : Bool) → ltb chunk_limit at ≡ past → (chunk_limit < at) ⊎ (looked-up ≡ Some offset)
        go true e = inl (ltb-true chunk_limit at e)
        go false e = inr (sym (known_by false e) ∙ found)

    pub known_none : known ≡ None → looked-up ≡ None
    known_none absent = go (ltb chunk_limit at) refl
      where
        go : (past : Bool) → ltb chunk_limit at ≡ past → looked-up ≡ None
        go true e = absurd (none-some 0 (sym absent ∙ known_by true e))
        go false e = sym (known_by false e) ∙ absent

  -- What is looked up in `count` entries that are lent is what is looked up among them in the scratch.
  module _ (count from to : ℕ) (begins : from ≡ start + base * shared_width) (ends : to ≡ start + (base + count) * shared_width) (fits : to ≤ length s) where
    abbrev lent : List ℕ
    lent = take (to - from) (drop from s)

    lent_word : (i at : ℕ) → from + i < to → from + i ≡ at → get_or lent i 0 ≡ get_or s at 0
    lent_word i at h is = get_or-take (to - from) (drop from s) i 0 (omega arith) ∙ get_or-drop from s i 0 ∙ ap (λ (j : ℕ). get_or s j 0) is

    entries_lent : (tree : ℕ → TypeDesc Text) (n : ℕ) → n ≤ count → types_from tree 0 lent 0 n ≡ types_from tree start s base n
    unfolding types_from
    entries_lent tree zero h = refl
    entries_lent tree (suc n) h =
        let first = lent_word (0 + (0 + n) * shared_width) (start + (base + n) * shared_width) (omega (arith, h, begins, ends)) (omega (arith, begins)) in
        let second = lent_word (0 + (0 + n) * shared_width + 1) (start + (base + n) * shared_width + 1) (omega (arith, h, begins, ends))
        (omega (arith, begins)) in
        let rest = entries_lent tree n (omega (arith, h)) in
        λ j. (tree (first j), second j) ∷ rest j

    counted : length lent / shared_width ≡ count
    counted =
        let long : length lent ≡ to - from = length-take-le (to - from) (drop from s) (omega (arith, length-drop from s, fits)) in
        omega (arith, long, begins, ends)

    lent_whole : (tree : ℕ → TypeDesc Text) → types_from tree 0 lent 0 (length lent / shared_width) ≡ types_from tree start s base count
    lent_whole tree = ap (types_from tree 0 lent 0) counted ∙ entries_lent tree count (omega arith)

    pub known_lent : (share : Bool) (at : ℕ) → known_offset share chunk edits types levels node lent 0 0 (length lent / shared_width) at
        ≡ known_offset share chunk edits types levels node s start base count at
    unfolding known_offset shared_offset type_offset
    known_lent share at =
        ap (λ (l : List (TypeDesc Text × ℕ)). cond (ltb chunk_limit at) (Some 0)
        (only_if (share && eqb (node_at types node).numbers.elements 0) (find same_as l))) (lent_whole (type_tree types levels))
