-- The loop over the members: what is left to place decides what the whole comes to, so each turn leaves that as it was, with one record more on the stack and
-- at most one type more among the members'.
use mathlib.Core.Path.{◌≡◌, refl, sym, ap, ◌∙◌, subst}
use mathlib.Core.Bool.{Bool, true, false}
use mathlib.Core.List.{List, [], ◌∷◌, ◌++◌, append_assoc, append-nil}
use Prim.Native.Nat.{ℕ, zero, suc, ◌+◌, ◌*◌, ◌-◌, ◌≤◌, ◌<◌}
use native.Mathlib.Omega.{arith}
use Rattle.words.specs.Splice.{splice}
use Rattle.reflection.specs.declared.Text.{Text}
use Rattle.reflection.specs.declared.TypeDesc.{TypeDesc as TypeRecord}
use Rattle.reflection.specs.Reflection.{TypeDesc, Members, no_member, member, member_count}
use Rattle.tables.specs.Records.{type_at}
use Rattle.tables.specs.Decode.{node_from_table}
use Rattle.reflection.specs.Limits.{type_room}
use Rattle.write_spec.specs.Step.{Pools, WriteStep}
use Rattle.write_spec.specs.Layout.{place_inner_name, place_members}
use Rattle.write_pool.specs.Pool.{entry_count}
use Rattle.write_texts.specs.Simulates.{text_facts, Simulates}
use Rattle.write_texts.specs.Scratch.{member_width, inner_start, defaults_start, variables_start, region, inner_pool, pools_in}
use Rattle.write_texts.specs.PlacedInScratch.{inner_room, Kept, TextPlaced}
use Rattle.write_texts.specs.PlacedInPool.{farthest_offset}
use Rattle.write_texts.specs.Cursor.{Placement}
use Rattle.write_texts.specs.Cursor.{WriteCursor}
use Rattle.write_texts.proofs.Runs.{ran_bind, ran_return, ran_like}
use Rattle.write_texts.proofs.Regions.{region_agree}
use Rattle.write_texts.proofs.ScratchPools.{inner_kept_before, ready_kept, pools_kept_before}
use Rattle.tables.specs.Trees.{BuiltAt, node_at, has_member, tree_at, type_tree}
use Rattle.tables.proofs.Trees.{member_left, members_none, members_more, members_past, tree_up}
use Rattle.write_types.specs.Trees.{member_tree, members_from}
use Rattle.write_types.specs.Room.{NodeRoom, MembersReady, TypeReady, Keeps}
use Rattle.write_types.specs.TypePlaced.{Advanced, MemberTypePlaced, MembersPlaced}
use Rattle.write_types.specs.Placed.{PlacedType}
use Rattle.write_types.proofs.Ready.{with_at}
use Rattle.write_types.proofs.Stacks.{write_kept, words_pushed, region_none, keeps_same, keeps_then, keeps_names, keeps_records}

-- The loop's invariant: from what was there at entry (s₀, out₀) the code came to s and out, with the cursor `to`, records up to `top`, and `left` members left.
-- Whatever places those that are left has placed all.
pub record Going (chunk edits types : List ℕ) (sm5 : Bool) (levels count base records-top : ℕ) (cursor : WriteCursor) (s₀ out₀ s out : List ℕ)
    (to : WriteCursor) (top left : ℕ) : Type 0 where
  pub whole : (ts : List (TypeDesc Text × ℕ)) {out' records : List ℕ} {end : ℕ} {ps : Pools Text Text}
      → Simulates chunk edits (place_members (text_facts chunk edits) sm5 (members_from types levels left to.node).it) to.at
      (pools_in s ts (member_tree types levels) base to.member_types) out out' records end ps
      → Simulates chunk edits (place_members (text_facts chunk edits) sm5 (members_from types levels count cursor.node).it) cursor.at
      (pools_in s₀ ts (member_tree types levels) base cursor.member_types) out₀ out' (region records-top top s ++ records) end ps
  pub same_next : (members_from types levels count cursor.node).next ≡ (members_from types levels left to.node).next
  pub counted : records-top + member_width * member_count (members_from types levels count cursor.node).it
      ≡ top + member_width * member_count (members_from types levels left to.node).it
  pub advanced : Advanced chunk edits cursor to 0 0 ((top - records-top) * 4) s₀ s
  pub keeps : Keeps s₀ s (base + cursor.member_types) records-top
  pub same_roots : to.root_types ≡ cursor.root_types
  pub flat : levels ≡ 0 → left ≡ 0
  pub records : top + cursor.node * member_width ≤ records-top + to.node * member_width
  pub up : records-top ≤ top

-- What there is as a turn begins: a member and a level, and room for a name and for a record.
pub record Turn (levels : ℕ) (s : List ℕ) (to : WriteCursor) (top left : ℕ) : Type 0 where
  pub some_left : 0 < left
  pub level : 0 < levels
  pub names : entry_count (inner_pool s) < inner_room
  pub near : to.at ≤ farthest_offset
  pub record_room : top + 3 ≤ variables_start

module _ {chunk edits types : List ℕ} {levels count base records-top : ℕ} {cursor : WriteCursor} {s₀ : List ℕ}
    (start : MembersReady chunk edits types levels count base records-top cursor s₀) where
  -- The members that are left, the step that places them, and the pools that it begins with.
  abbrev rest : ℕ → ℕ → BuiltAt (Members Text)
  rest = members_from types levels

  abbrev placing_of : Bool → Members Text → WriteStep Text Text (List ℕ)
  placing_of sm5 ms = place_members (text_facts chunk edits) sm5 ms

  abbrev pools_of : List (TypeDesc Text × ℕ) → List ℕ → ℕ → Pools Text Text
  pools_of ts s n = pools_in s ts (member_tree types levels) base n

  pub starts : {sm5 : Bool} {out₀ : List ℕ} → Going chunk edits types sm5 levels count base records-top cursor s₀ out₀ s₀ out₀ cursor records-top count
  starts {sm5} {out₀} = record {
    whole = λ ts {out'} {records} {end} {ps} ran.
        subst (λ (l : List ℕ). Simulates chunk edits (placing_of sm5 (rest count cursor.node).it) cursor.at
        (pools_of ts s₀ cursor.member_types) out₀ out'
        (l ++ records) end ps) (sym (region_none s₀ records-top)) ran;
    same_next = refl;
    counted = refl;
    advanced = record { ready = start.ready; more = omega arith; stacked = omega arith; names = omega arith; near = omega arith };
    keeps = keeps_same s₀ (base + cursor.member_types) records-top;
    same_roots = refl;
    flat = start.flat;
    records = omega arith;
    up = omega arith;
  }

  module _ {sm5 : Bool} {out₀ s out : List ℕ} {to : WriteCursor} {top left : ℕ}
      (going : Going chunk edits types sm5 levels count base records-top cursor s₀ out₀ s out to top left) where
    -- No member is left.
    pub ends : has_member types left to.node ≡ false
        → MembersPlaced chunk edits types sm5 levels count base records-top cursor s₀ s out₀ out (record { cursor = to; records_top = top })
    unfolding place_members member_count
    ends none = record {
      ran = λ ts.
          ran_like chunk edits refl refl (append-nil (region records-top top s))
          (going.whole ts
          (subst (λ (w : BuiltAt (Members Text)). Simulates chunk edits (placing_of sm5 w.it) to.at (pools_of ts s to.member_types) out out
          [] to.at
          (pools_of ts s to.member_types)) (sym nothing) (ran_return chunk edits [] to.at (pools_of ts s to.member_types) out)));
      next = sym (going.same_next ∙ ap (λ (w : BuiltAt (Members Text)). w.next) nothing);
      advanced = going.advanced;
      keeps = going.keeps;
      same_roots = going.same_roots;
      pushed = omega (arith, going.counted, ap (λ (w : BuiltAt (Members Text)). member_count w.it) nothing);
      records = going.records;
    }
      where
        nothing : rest left to.node ≡ record { it = no_member; next = to.node }
        nothing = members_none types (tree_at types (levels - 1)) left to.node none

    -- A member is left; its type lies within the limit.
    module _ (here : has_member types left to.node ≡ true) where
      abbrev after_type_lem : ℕ
      after_type_lem = (tree_at types (levels - 1) to.node).next

      this_member : rest left to.node
          ≡ record {
            it = member (node_at types to.node).member_name (node_at types to.node).member_offset (tree_at types (levels - 1) to.node).it
                (rest (left - 1) after_type_lem).it;
            next = (rest (left - 1) after_type_lem).next;
          }
      this_member = members_more types (tree_at types (levels - 1)) left to.node here

      some_left : 0 < left
      some_left = omega (arith, member_left types left to.node here)

      level : 0 < levels
      level = pos levels (λ e. let z : left ≡ 0 = going.flat e in omega (arith, z, some_left))
        where
          pos : (l : ℕ) → (l ≡ 0 → ⊥) → 0 < l
          pos zero h = absurd (h refl)
          pos (suc l) h = omega arith

      type_within : after_type_lem ≤ type_room
      type_within =
          omega (
            arith,
            start.within,
            going.same_next,
            ap (λ (w : BuiltAt (Members Text)). w.next) this_member,
            members_past types (levels - 1) (left - 1) after_type_lem,
          )

      node_early : to.node < type_room
      node_early = omega (arith, type_within, tree_up types (levels - 1) to.node)

      room_here : NodeRoom s to.node 0 to.at (base + to.member_types) top
      room_here = record {
        cursor = omega (arith, going.advanced.near, start.room.cursor);
        names = omega (arith, going.advanced.names, start.room.names);
        stacked = omega (arith, going.advanced.stacked, start.room.stacked);
        records_low = omega (arith, start.room.records_low, going.up);
        records_high = omega (arith, going.records, start.room.records_high);
      }

      record_room : top + 3 ≤ variables_start
      record_room = omega (arith, room_here.records_high, node_early)

      pub turn : Turn levels s to top left
      turn = record {
        some_left = some_left;
        level = level;
        names = omega (arith, room_here.names, node_early);
        near = omega (arith, room_here.cursor, node_early);
        record_room = record_room;
      }

      module _ {s₁ out₁ : List ℕ} {name : Placement} {desc : TypeRecord} (is-desc : desc ≡ type_at types to.node)
          (named : TextPlaced chunk edits (place_inner_name (text_facts chunk edits) desc.member_name) to.at inner_pool inner_start defaults_start
          s s₁ out out₁ name) where
        pub type_ready : TypeReady chunk edits types (levels - 1) base top (with_at to name.at) s₁
        type_ready = record {
          ready = named.ready;
          room = record {
            cursor = omega (arith, room_here.cursor, named.near_high);
            names = omega (arith, room_here.names, named.count_high);
            stacked = room_here.stacked;
            records_low = room_here.records_low;
            records_high = room_here.records_high;
          };
          within = type_within;
        }

        module _ {s₂ s₃ out₂ : List ℕ} {placed : PlacedType}
            (typed : MemberTypePlaced chunk edits types sm5 (levels - 1) base top (with_at to name.at) s₁ s₂ out₁ out₂ placed)
            (pushed : s₃ ≡ splice s₂ top (name.offset ∷ placed.offset ∷ desc.member_offset ∷ [])) where
          abbrev words : List ℕ
          words = name.offset ∷ placed.offset ∷ desc.member_offset ∷ []

          abbrev after : WriteCursor
          after = placed.cursor

          past : to.node + 1 ≤ after.node
          past = omega (arith, typed.next, tree_up types (levels - 1) to.node)

          entries_in : base + after.member_types ≤ type_room
          entries_in = omega (arith, room_here.stacked, typed.one, node_early)

          pushed_kept : Kept top (top + 3) s₂ s₃
          pushed_kept = write_kept s₂ top words pushed

          -- The types of members and the records so far are where they were, with one record more.
          pools_same : (ts : List (TypeDesc Text × ℕ)) → pools_of ts s₃ after.member_types ≡ pools_of ts s₂ after.member_types
          pools_same ts =
              pools_kept_before typed.advanced.ready pushed_kept (omega (arith, room_here.records_low)) ts (member_tree types levels) base
              after.member_types (omega (arith, entries_in, room_here.records_low))

          keeps_far : Keeps s₀ s₂ (base + cursor.member_types) records-top
          keeps_far =
              keeps_then
              (keeps_then going.keeps (keeps_names (base + cursor.member_types) records-top named.kept) (omega arith) (omega arith))
              typed.keeps (omega (arith, going.advanced.more)) going.up

          keeps_all : Keeps s₀ s₃ (base + cursor.member_types) records-top
          keeps_all =
              keeps_then keeps_far
              (keeps_records (base + cursor.member_types) records-top pushed_kept (omega (arith, entries_in, typed.advanced.more, going.advanced.more))
              room_here.records_low going.up record_room) (omega arith) (omega arith)

          same_records : region records-top top s₂ ≡ region records-top top s
          same_records =
              region_agree records-top top s s₂ (typed.keeps.long ∙ named.kept.long) (omega (arith, record_room, going.advanced.ready.long))
              (λ i low high. typed.keeps.records i (omega (arith, start.room.records_low)) high
              ∙ named.kept.after i (omega (arith, start.room.records_low)))

          record_there : region records-top (top + 3) s₃ ≡ region records-top top s ++ words
          record_there =
              words_pushed s₂ records-top top words pushed going.up (omega (arith, record_room, typed.advanced.ready.long))
              ∙ ap (λ (l : List ℕ). l ++ words) same_records

          offset_is : desc.member_offset ≡ (node_at types to.node).member_offset
          unfolding node_at node_from_table
          offset_is = ap (λ (x : TypeRecord). x.member_offset) is-desc

          name_is : desc.member_name ≡ (node_at types to.node).member_name
          unfolding node_at node_from_table
          name_is = ap (λ (x : TypeRecord). x.member_name) is-desc

          -- The member as the code has it.
          abbrev this : BuiltAt (Members Text)
          this = record {
            it = member desc.member_name desc.member_offset (member_tree types levels to.node) (rest (left - 1) after.node).it;
            next = (rest (left - 1) after.node).next;
          }

          this_is : rest left to.node ≡ this
          unfolding type_tree
          this_is =
              this_member
              ∙ (λ i. record {
                it = member (sym name_is i) (sym offset_is i) (tree_at types (levels - 1) to.node).it (rest (left - 1) (sym typed.next i)).it;
                next = (rest (left - 1) (sym typed.next i)).next;
              })

          run_this : (ts : List (TypeDesc Text × ℕ)) {out' records : List ℕ} {end : ℕ} {ps : Pools Text Text}
              → Simulates chunk edits (placing_of sm5 (rest (left - 1) after.node).it) after.at (pools_of ts s₃ after.member_types) out₂
              out' records
              end ps
              → Simulates chunk edits (placing_of sm5 this.it) to.at (pools_of ts s to.member_types) out out' (words ++ records) end ps
          unfolding place_members
          run_this ts {out'} {records} {end} {ps} others =
              ran_bind chunk edits _ (named.ran ts (member_tree types levels) base to.member_types)
              (ran_bind chunk edits _ (ran_like chunk edits refl (sym (pools_same ts)) refl (typed.ran ts))
              (ran_bind chunk edits _ others (ran_return chunk edits (words ++ records) end ps out')))

          pub goes_on : Going chunk edits types sm5 levels count base records-top cursor s₀ out₀ s₃ out₂ after (top + 3) (left - 1)
          unfolding member_count
          goes_on = record {
            whole = λ ts {out'} {records} {end} {ps} others.
                ran_like chunk edits refl refl
                (sym (append_assoc (region records-top top s) words records) ∙ ap (λ (l : List ℕ). l ++ records) (sym record_there))
                (going.whole ts
                (subst (λ (w : BuiltAt (Members Text)). Simulates chunk edits (placing_of sm5 w.it) to.at (pools_of ts s to.member_types) out out'
                (words ++ records) end ps) (sym this_is) (run_this ts others)));
            same_next = going.same_next ∙ ap (λ (w : BuiltAt (Members Text)). w.next) this_is;
            counted = going.counted ∙ ap (λ (w : BuiltAt (Members Text)). top + member_width * member_count w.it) this_is ∙ omega arith;
            advanced = record {
              ready = ready_kept typed.advanced.ready pushed_kept (omega (arith, room_here.records_low));
              more = omega (arith, going.advanced.more, typed.advanced.more);
              stacked = omega (arith, going.advanced.stacked, typed.advanced.stacked);
              names =
                  omega (
                    arith,
                    going.advanced.names,
                    named.count_high,
                    typed.advanced.names,
                    ap entry_count (inner_kept_before pushed_kept typed.advanced.ready.long (omega (arith, room_here.records_low))),
                  );
              near = omega (arith, going.advanced.near, going.up, named.near_high, typed.advanced.near);
            };
            keeps = keeps_all;
            same_roots = typed.same_roots ∙ going.same_roots;
            flat = λ e. absurd (omega (arith, e, level));
            records = omega (arith, going.records, past);
            up = omega (arith, going.up);
          }
