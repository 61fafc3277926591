-- A member's type: found among the types of the members before it, or written with a pool of its own for its members; then it is one entry more, above those
-- that were there, and the entries of its own members are dropped.
use Rattle.std.specs.Prelude.{Option, Some, None}
use mathlib.Core.Logic.{inl, inr}
use mathlib.Core.Path.{◌≡◌, refl, sym, ap, ◌∙◌, subst}
use mathlib.Core.Bool.{Bool, true}
use mathlib.Core.List.{List, [], ◌∷◌}
use Prim.Native.Nat.{ℕ, ◌+◌, ◌*◌, ◌-◌, ◌/◌, ◌<◌}
use lib.ListN.{length, take, drop}
use native.Mathlib.Nat.{add-zero}
use native.Mathlib.Omega.{arith}
use Rattle.words.specs.Splice.{splice}
use Rattle.reflection.specs.declared.Text.{Text}
use Rattle.reflection.specs.Reflection.{TypeDesc}
use Rattle.write_spec.specs.Step.{pools, in_member_pool, enter_member, leave_member, add_type}
use Rattle.write_spec.specs.Layout.{place_type}
use Rattle.write_pool.specs.Pool.{entries, entry_count}
use Rattle.write_texts.specs.Cursor.{WriteCursor}
use Rattle.write_texts.specs.Simulates.{text_facts, chunk_limit, Simulates}
use Rattle.write_texts.specs.Scratch.{shared_width, member_types_start, types_from, pools_in}
use Rattle.write_texts.specs.PlacedInScratch.{Kept}
use Rattle.write_texts.proofs.Runs.{ran_below, ran_like, ran_past, simulates_add_to_pool_if_shared}
use Rattle.write_texts.proofs.ScratchPools.{ready_kept}
use Rattle.tables.specs.Trees.{tree_at, type_tree}
use Rattle.write_types.specs.Trees.{member_tree}
use Rattle.write_types.specs.Room.{TypeReady, Keeps}
use Rattle.write_types.specs.TypePlaced.{shared_offset, known_offset, TypeWritten, MemberTypePlaced}
use Rattle.write_types.specs.Placed.{PlacedType}
use Rattle.write_types.proofs.Finding.{known_lent, known_some, known_none}
use Rattle.write_types.proofs.Ready.{with_node_lem, with_members, entry_room, stays}
use Rattle.write_types.proofs.Stacks.{SameTexts, write_kept, texts_kept, entry_pushed, keeps_same, keeps_then, keeps_entries}
use Rattle.write_types.proofs.Sharing.{looked, type_found, type_fresh, looked_is}

module _ {chunk edits types : List ℕ} {levels base records-top : ℕ} {cursor : WriteCursor} {s : List ℕ}
    (start : TypeReady chunk edits types levels base records-top cursor s) where
  abbrev tree : ℕ → TypeDesc Text
  tree = type_tree types levels

  abbrev count : ℕ
  count = cursor.member_types

  abbrev own_types : List (TypeDesc Text × ℕ)
  own_types = types_from tree member_types_start s base count

  -- Nothing is written, whatever the reason.
  unwritten : {sm5 : Bool} {offset next : ℕ} {out : List ℕ} → next ≡ (tree_at types levels cursor.node).next
      → ((ts : List (TypeDesc Text × ℕ)) → Simulates chunk edits (in_member_pool (place_type (text_facts chunk edits) sm5 true (tree cursor.node))) cursor.at
      (pools_in s ts tree base count) out out offset cursor.at (pools_in s ts tree base count))
      → MemberTypePlaced chunk edits types sm5 levels base records-top cursor s s out out (record { offset = offset; cursor = with_node_lem cursor next })
  unwritten is-next runs = record {
    ran = runs;
    next = is-next;
    advanced = stays start is-next (omega arith);
    keeps = keeps_same s (base + count) records-top;
    same_roots = refl;
    one = omega arith;
  }

  -- Past the limit of a chunk nothing is looked up or written.
  member_past : {sm5 : Bool} {offset next : ℕ} {out : List ℕ} → chunk_limit < cursor.at → next ≡ (tree_at types levels cursor.node).next
      → MemberTypePlaced chunk edits types sm5 levels base records-top cursor s s out out (record { offset = offset; cursor = with_node_lem cursor next })
  member_past past is-next = unwritten is-next (λ ts. ran_past chunk edits _ _ past (omega arith) refl)

  module _ (looked-up : Option ℕ) (look : looked-up ≡ shared_offset true chunk edits types levels cursor.node s member_types_start base count) where
    -- On the way down the type is looked up among the members' types, and its own members' are none.
    pools_down : (ts : List (TypeDesc Text × ℕ)) → pools_in s own_types (member_tree types levels) (base + count) 0 ≡ enter_member (pools_in s ts tree base count)
    unfolding pools_in types_from
    pools_down ts = refl

    looked_down : (ts : List (TypeDesc Text × ℕ))
        → looked chunk edits true (tree cursor.node) (enter_member (pools_in s ts tree base count)).types ≡ looked-up
    unfolding pools_in
    looked_down ts = looked_is chunk edits true types levels cursor.node s member_types_start base count ∙ sym look

    pools_found : (ts : List (TypeDesc Text × ℕ))
        → leave_member (pools_in s ts tree base count).types (enter_member (pools_in s ts tree base count)) ≡ pools_in s ts tree base count
    unfolding pools_in
    pools_found ts = refl

    member_found : {sm5 : Bool} {offset next : ℕ} {out : List ℕ} → looked-up ≡ Some offset → next ≡ (tree_at types levels cursor.node).next
        → MemberTypePlaced chunk edits types sm5 levels base records-top cursor s s out out (record { offset = offset; cursor = with_node_lem cursor next })
    member_found {sm5} found is-next =
        unwritten is-next
        (λ ts. ran_like chunk edits refl (pools_found ts) refl
        (ran_below chunk edits (type_found chunk edits sm5 true (tree cursor.node) (looked_down ts ∙ found))))

    module _ {sm5 : Bool} {s₂ s₃ out out₂ : List ℕ} {placed : PlacedType} (absent : looked-up ≡ None)
        (written : TypeWritten chunk edits types sm5 levels (base + count) records-top (with_members cursor 0) s s₂ out out₂ placed)
        (pushed : s₃ ≡ splice s₂ (member_types_start + (base + count) * shared_width) (cursor.node ∷ placed.offset ∷ [])) where
      abbrev push_place : ℕ
      push_place = member_types_start + (base + count) * shared_width

      kept_down : Keeps s s₂ (base + count) records-top
      kept_down = subst (λ (e : ℕ). Keeps s s₂ e records-top) (add-zero (base + count)) written.keeps

      pushed_kept : Kept push_place (push_place + 2) s₂ s₃
      pushed_kept = write_kept s₂ push_place (cursor.node ∷ placed.offset ∷ []) pushed

      entries_now : types_from tree member_types_start s₃ base (count + 1) ≡ (tree cursor.node, placed.offset) ∷ own_types
      entries_now =
          entry_pushed tree member_types_start s base count cursor.node placed.offset s₂ (λ i low high. kept_down.middle i (omega arith) high) pushed
          (omega (arith, entry_room start, written.advanced.ready.long))

      texts : SameTexts s₂ s₃
      texts = texts_kept pushed_kept written.advanced.ready.long (omega arith)

      -- On the way up it is the newest of the members' types.
      pools_up : (ts : List (TypeDesc Text × ℕ))
          → leave_member (pools_in s ts tree base count).types
          (add_type (tree cursor.node) placed.offset (pools_in s₂ own_types (member_tree types levels) (base + count) placed.cursor.member_types))
          ≡ pools_in s₃ ts tree base (count + 1)
      unfolding pools_in
      pools_up ts = λ i. pools (entries (sym texts.outer i)) (entries (sym texts.inner i)) ts (sym entries_now i) (entries (sym texts.defaults i))

      pub member_written : MemberTypePlaced chunk edits types sm5 levels base records-top cursor s s₃ out out₂
          (record { offset = placed.offset; cursor = with_members placed.cursor (count + 1) })
      member_written = record {
        ran = λ ts.
            ran_like chunk edits refl (pools_up ts) refl
            (ran_below chunk edits
            (type_fresh chunk edits sm5 true (tree cursor.node) (looked_down ts ∙ absent)
            (ran_like chunk edits (pools_down ts) refl refl (written.ran own_types))
            (simulates_add_to_pool_if_shared chunk edits true (add_type (tree cursor.node)) _ _ _ _ refl)));
        next = written.next;
        advanced = record {
          ready = ready_kept written.advanced.ready pushed_kept (omega arith);
          more = omega arith;
          stacked = omega (arith, written.advanced.stacked);
          names = omega (arith, written.advanced.names, ap entry_count texts.inner);
          near = written.advanced.near;
        };
        keeps =
            keeps_then kept_down (keeps_entries (base + count) records-top pushed_kept (omega arith) (omega (arith, entry_room start))) (omega arith)
            (omega arith);
        same_roots = written.same_roots;
        one = omega arith;
      }

  -- By what the code looked up among the entries that it lent.
  abbrev lent_types : List ℕ
  lent_types =
      take (member_types_start + (base + count) * shared_width - (member_types_start + base * shared_width)) (drop (member_types_start + base * shared_width) s)

  pub known_here : {known : Option ℕ}
      → known ≡ known_offset true chunk edits types levels cursor.node lent_types 0 0 (length lent_types / shared_width) cursor.at
      → known ≡ known_offset true chunk edits types levels cursor.node s member_types_start base count cursor.at
  known_here is =
      is
      ∙ known_lent chunk edits types levels cursor.node s member_types_start base count (member_types_start + base * shared_width)
      (member_types_start + (base + count) * shared_width) refl refl (omega (arith, entry_room start, start.ready.long)) true cursor.at

  module _ {known : Option ℕ} (is_known : known ≡ known_offset true chunk edits types levels cursor.node s member_types_start base count cursor.at) where
    pub member_known : {sm5 : Bool} {offset next : ℕ} {out : List ℕ} → known ≡ Some offset → next ≡ (tree_at types levels cursor.node).next
        → MemberTypePlaced chunk edits types sm5 levels base records-top cursor s s out out (record { offset = offset; cursor = with_node_lem cursor next })
    member_known found is-next =
        elim (known_some chunk edits types levels cursor.node s member_types_start base count cursor.at true is_known found) [
          | inl past ↦ member_past past is-next
          | inr e ↦ member_found _ refl e is-next
        ]

    pub member_new : known ≡ None → shared_offset true chunk edits types levels cursor.node s member_types_start base count ≡ None
    member_new = known_none chunk edits types levels cursor.node s member_types_start base count cursor.at true is_known
