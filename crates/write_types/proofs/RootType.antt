-- A variable's type: found among the types of the variables before it, or written; then it is one entry more where it may be shared. The types of members lie
-- on a stack of their own, which is the whole chunk's.
use Rattle.std.specs.Prelude.{Option, Some, None}
use mathlib.Core.Logic.{inl, inr}
use mathlib.Core.Path.{◌≡◌, refl, sym, ap, ◌∙◌}
use mathlib.Core.Bool.{Bool, true, false}
use mathlib.Core.List.{List, [], ◌∷◌}
use Prim.Native.Nat.{ℕ, ◌+◌, ◌*◌, ◌-◌, ◌/◌, ◌≤◌, ◌<◌}
use native.Mathlib.Omega.{arith}
use lib.ListN.{length, get_or, take, drop}
use Rattle.words.specs.Splice.{splice}
use Rattle.reflection.specs.declared.Text.{Text}
use Rattle.reflection.specs.Reflection.{TypeDesc}
use Rattle.reflection.specs.Limits.{variable_room}
use Rattle.write_spec.specs.Step.{Pools, pools, add_type}
use Rattle.write_spec.specs.Layout.{place_type}
use Rattle.write_pool.specs.Pool.{entries, entry_count}
use Rattle.write_texts.specs.Cursor.{WriteCursor}
use Rattle.write_texts.specs.Simulates.{text_facts, chunk_limit, Simulates}
use Rattle.write_texts.specs.Scratch.{shared_width, inner_start, defaults_start, root_types_start, member_types_start, records_start}
use Rattle.write_texts.specs.Scratch.{outer_pool, default_pool, types_from, pools_in}
use Rattle.write_texts.specs.PlacedInScratch.{Kept}
use Rattle.write_texts.proofs.Runs.{ran_like, ran_past, simulates_add_to_pool_if_shared, simulates_add_to_pool_if_unshared}
use Rattle.write_texts.proofs.Regions.{region_agree, types_agree, types_kept_after}
use Rattle.write_texts.proofs.ScratchPools.{ready_kept}
use Rattle.tables.specs.Trees.{tree_at, type_tree}
use Rattle.write_types.specs.Trees.{member_tree}
use Rattle.write_types.specs.Room.{TypeReady}
use Rattle.write_types.specs.TypePlaced.{shared_offset, known_offset, TypeWritten, RootTypePlaced}
use Rattle.write_types.specs.Placed.{PlacedType}
use Rattle.write_types.proofs.Finding.{known_lent, known_some, known_none}
use Rattle.write_types.proofs.Ready.{with_node_lem, stays}
use Rattle.write_types.proofs.Stacks.{SameTexts, write_kept, texts_kept, entry_pushed}
use Rattle.write_types.proofs.Sharing.{looked, type_found, type_fresh, looked_is}

module _ {chunk edits types : List ℕ} {levels : ℕ} {cursor : WriteCursor} {s : List ℕ}
    (start : TypeReady chunk edits types levels 0 records_start cursor s) where
  abbrev tree : ℕ → TypeDesc Text
  tree = type_tree types levels

  abbrev roots : ℕ
  roots = cursor.root_types

  abbrev root_types : List (TypeDesc Text × ℕ)
  root_types = types_from tree root_types_start s 0 roots

  -- The pools with so many types of members, where the types of variables are those that lay in the scratch at first.
  abbrev pools_of : List ℕ → ℕ → Pools Text Text
  pools_of s' count = pools_in s' root_types (member_tree types levels) 0 count

  -- Nothing is written, whatever the reason.
  unwritten : {sm5 share : Bool} {offset next : ℕ} {out : List ℕ} → next ≡ (tree_at types levels cursor.node).next
      → Simulates chunk edits (place_type (text_facts chunk edits) sm5 share (tree cursor.node)) cursor.at (pools_of s cursor.member_types)
      out out offset
      cursor.at (pools_of s cursor.member_types)
      → RootTypePlaced chunk edits types sm5 share levels cursor s s out out (record { offset = offset; cursor = with_node_lem cursor next })
  unwritten is-next run = record {
    ran = run;
    next = is-next;
    advanced = stays start is-next (omega arith);
    long = refl;
    high = λ j h. refl;
    outer_same = refl;
    defaults_same = refl;
    roots_more = omega arith;
    one_root = omega arith;
  }

  -- Past the limit of a chunk nothing is looked up or written.
  root_past : {sm5 share : Bool} {offset next : ℕ} {out : List ℕ} → chunk_limit < cursor.at → next ≡ (tree_at types levels cursor.node).next
      → RootTypePlaced chunk edits types sm5 share levels cursor s s out out (record { offset = offset; cursor = with_node_lem cursor next })
  root_past past is-next = unwritten is-next (ran_past chunk edits _ _ past (omega arith) refl)

  module _ (share : Bool) (looked-up : Option ℕ)
      (look : looked-up ≡ shared_offset share chunk edits types levels cursor.node s root_types_start 0 roots) where
    looked_here : (count : ℕ) → looked chunk edits share (tree cursor.node) (pools_of s count).types ≡ looked-up
    unfolding pools_in
    looked_here count = looked_is chunk edits share types levels cursor.node s root_types_start 0 roots ∙ sym look

    root_found : {sm5 : Bool} {offset next : ℕ} {out : List ℕ} → looked-up ≡ Some offset → next ≡ (tree_at types levels cursor.node).next
        → RootTypePlaced chunk edits types sm5 share levels cursor s s out out (record { offset = offset; cursor = with_node_lem cursor next })
    root_found {sm5} found is-next =
        unwritten is-next (type_found chunk edits sm5 share (tree cursor.node) (looked_here cursor.member_types ∙ found))

    module _ {sm5 : Bool} {s₂ out out₂ : List ℕ} {placed : PlacedType} (few-roots : roots < variable_room) (absent : looked-up ≡ None)
        (written : TypeWritten chunk edits types sm5 levels 0 records_start cursor s s₂ out out₂ placed) where
      abbrev members : ℕ
      members = placed.cursor.member_types

      roots_same : (i : ℕ) → root_types_start + 0 * shared_width ≤ i → i < root_types_start + (0 + roots) * shared_width → get_or s₂ i 0 ≡ get_or s i 0
      roots_same i low high = written.keeps.middle i (omega arith) (omega (arith, few-roots))

      outer_kept : outer_pool s₂ ≡ outer_pool s
      unfolding outer_pool
      outer_kept = region_agree 0 inner_start s s₂ written.keeps.long (omega (arith, start.ready.long)) (λ i low high. written.keeps.outer i high)

      defaults_kept : default_pool s₂ ≡ default_pool s
      unfolding default_pool
      defaults_kept =
          region_agree defaults_start root_types_start s s₂ written.keeps.long (omega (arith, start.ready.long))
          (λ i low high. written.keeps.middle i low (omega arith))

      absent_here : looked chunk edits share (tree cursor.node) (pools_of s cursor.member_types).types ≡ None
      absent_here = looked_here cursor.member_types ∙ absent

      -- The type is not shared.
      types_now : root_types ≡ types_from tree root_types_start s₂ 0 placed.cursor.root_types
      types_now =
          sym (types_agree tree root_types_start s s₂ 0 roots roots_same)
          ∙ ap (λ (m : ℕ). types_from tree root_types_start s₂ 0 m) (sym written.same_roots)

      pub root_unshared : share ≡ false → RootTypePlaced chunk edits types sm5 share levels cursor s s₂ out out₂ placed
      root_unshared unshared = record {
        ran =
            ran_like chunk edits refl (ap (λ (ts : List (TypeDesc Text × ℕ)). pools_in s₂ ts (member_tree types levels) 0 members) types_now) refl
            (type_fresh chunk edits sm5 share (tree cursor.node) absent_here (written.ran root_types)
            (simulates_add_to_pool_if_unshared chunk edits share (add_type (tree cursor.node)) _ _ _ _ unshared));
        next = written.next;
        advanced = written.advanced;
        long = written.keeps.long;
        high = written.keeps.high;
        outer_same = outer_kept;
        defaults_same = defaults_kept;
        roots_more = omega (arith, written.same_roots);
        one_root = omega (arith, written.same_roots);
      }

      -- The type is shared from now on.
      module _ {s₃ : List ℕ} (pushed : s₃ ≡ splice s₂ (root_types_start + roots * shared_width) (cursor.node ∷ placed.offset ∷ [])) where
        abbrev push_place : ℕ
        push_place = root_types_start + roots * shared_width

        pushed_kept : Kept push_place (push_place + 2) s₂ s₃
        pushed_kept = write_kept s₂ push_place (cursor.node ∷ placed.offset ∷ []) pushed

        place_is : root_types_start + (0 + roots) * shared_width ≡ push_place
        place_is = omega arith

        entries_now : types_from tree root_types_start s₃ 0 (roots + 1) ≡ (tree cursor.node, placed.offset) ∷ root_types
        entries_now =
            entry_pushed tree root_types_start s 0 roots cursor.node placed.offset s₂ roots_same
            (pushed ∙ ap (λ (j : ℕ). splice s₂ j (cursor.node ∷ placed.offset ∷ [])) (sym place_is))
            (omega (arith, few-roots, written.advanced.ready.long))

        texts : SameTexts s₂ s₃
        texts = texts_kept pushed_kept written.advanced.ready.long (omega arith)

        members_same : types_from (member_tree types levels) member_types_start s₃ 0 members ≡ types_from (member_tree types levels) member_types_start s₂ 0 members
        members_same = types_kept_after pushed_kept (member_tree types levels) member_types_start 0 members (omega (arith, few-roots))

        pools_shared : add_type (tree cursor.node) placed.offset (pools_of s₂ members)
            ≡ pools_in s₃ (types_from tree root_types_start s₃ 0 (roots + 1)) (member_tree types levels) 0 members
        unfolding pools_in
        pools_shared = λ i.
            pools (entries (sym texts.outer i)) (entries (sym texts.inner i)) (sym entries_now i) (sym members_same i) (entries (sym texts.defaults i))

        pub root_shared : share ≡ true
            → RootTypePlaced chunk edits types sm5 share levels cursor s s₃ out out₂ (record {
              offset = placed.offset;
              cursor = record { at = placed.cursor.at; node = placed.cursor.node; member_types = members; root_types = roots + 1 };
            })
        root_shared shared = record {
          ran =
              ran_like chunk edits refl pools_shared refl
              (type_fresh chunk edits sm5 share (tree cursor.node) absent_here (written.ran root_types)
              (simulates_add_to_pool_if_shared chunk edits share (add_type (tree cursor.node)) _ _ _ _ shared));
          next = written.next;
          advanced = record {
            ready = ready_kept written.advanced.ready pushed_kept (omega arith);
            more = written.advanced.more;
            stacked = written.advanced.stacked;
            names = omega (arith, written.advanced.names, ap entry_count texts.inner);
            near = written.advanced.near;
          };
          long = pushed_kept.long ∙ written.keeps.long;
          high = λ j h. pushed_kept.after j (omega (arith, few-roots)) ∙ written.keeps.high j h;
          outer_same = texts.outer ∙ outer_kept;
          defaults_same = texts.defaults ∙ defaults_kept;
          roots_more = omega arith;
          one_root = omega arith;
        }

  -- By what the code looked up among the entries that it lent.
  abbrev lent_types : List ℕ
  lent_types = take (root_types_start + roots * shared_width - root_types_start) (drop root_types_start s)

  pub known_here : roots < variable_room → (share : Bool) {known : Option ℕ}
      → known ≡ known_offset share chunk edits types levels cursor.node lent_types 0 0 (length lent_types / shared_width) cursor.at
      → known ≡ known_offset share chunk edits types levels cursor.node s root_types_start 0 roots cursor.at
  known_here few share is =
      is
      ∙ known_lent chunk edits types levels cursor.node s root_types_start 0 roots root_types_start (root_types_start + roots * shared_width)
      (omega arith) (omega arith) (omega (arith, few, start.ready.long)) share cursor.at

  module _ (share : Bool) {known : Option ℕ}
      (is_known : known ≡ known_offset share chunk edits types levels cursor.node s root_types_start 0 roots cursor.at) where
    pub root_known : {sm5 : Bool} {offset next : ℕ} {out : List ℕ} → known ≡ Some offset → next ≡ (tree_at types levels cursor.node).next
        → RootTypePlaced chunk edits types sm5 share levels cursor s s out out (record { offset = offset; cursor = with_node_lem cursor next })
    root_known found is-next =
        elim (known_some chunk edits types levels cursor.node s root_types_start 0 roots cursor.at share is_known found) [
          | inl past ↦ root_past past is-next
          | inr e ↦ root_found share _ refl e is-next
        ]

    pub root_new : known ≡ None → shared_offset share chunk edits types levels cursor.node s root_types_start 0 roots ≡ None
    root_new = known_none chunk edits types levels cursor.node s root_types_start 0 roots cursor.at share is_known
