-- A type is written: its name, its members, their records, its descriptor, one after the other, as the definition puts them together; and it uses no more room
-- than its nodes have.
use mathlib.Core.Path.{◌≡◌, refl, sym, ap, ◌∙◌, subst}
use mathlib.Core.Bool.{Bool}
use mathlib.Core.List.{List}
use Prim.Native.Nat.{ℕ, zero, suc, ◌+◌, ◌*◌, ◌-◌, ◌≤◌}
use native.Mathlib.Omega.{arith}
use lib.ListN.{length}
use Rattle.reflection.specs.declared.Text.{Text}
use Rattle.reflection.specs.declared.TypeDesc.{TypeDesc as TypeRecord}
use Rattle.reflection.specs.Reflection.{TypeDesc, type_desc, Members, member_count}
use Rattle.reflection.specs.Texts.{text_bytes}
use Rattle.tables.specs.Records.{type_at}
use Rattle.tables.specs.Decode.{node_from_table}
use Rattle.reflection.specs.Limits.{type_room}
use Rattle.write_spec.specs.Canonical.{bytes_facts}
use Rattle.write_spec.specs.Through.{through}
use Rattle.write_spec.specs.Layout.{write_type, place_inner_name}
use Rattle.write_texts.specs.Simulates.{text_facts, Simulates}
use Rattle.write_texts.specs.Scratch.{member_width, inner_start, defaults_start, records_start, region, inner_pool, pools_in, PoolsReady}
use Rattle.write_texts.specs.PlacedInPool.{farthest_offset}
use Rattle.write_texts.specs.PlacedInScratch.{TextPlaced}
use Rattle.write_texts.specs.Cursor.{Placement}
use Rattle.write_texts.specs.Cursor.{WriteCursor}
use Rattle.write_texts.proofs.Runs.{ran_bind, ran_empty, ran_unless_empty}
use Rattle.write_texts.proofs.Regions.{length_region, kept_same}
use Rattle.tables.specs.Trees.{BuiltAt, node_at, members_at, tree_at, type_tree}
use Rattle.write_types.specs.Trees.{member_tree, members_from}
use Rattle.write_types.specs.Writing.{write_tree, place_type_name, append_records, close_type, count_within}
use Rattle.write_types.specs.Room.{TypeReady, MembersReady}
use Rattle.write_types.specs.TypePlaced.{TypePut, TypeWritten, MembersPlaced}
use Rattle.write_types.specs.Placed.{PlacedMembers}
use Rattle.write_types.proofs.Ready.{with_at}
use Rattle.write_types.proofs.Stacks.{keeps_then, keeps_names}

-- Without levels the code counts no members.
within_none : (levels count : ℕ) → levels ≡ 0 → count_within levels count ≡ 0
within_none zero count e = refl
within_none (suc levels) count e = absurd (omega (arith, e))

-- A type by the members that the code counts.
pub tree_counted : (types : List ℕ) (levels node : ℕ) {desc : TypeRecord} {count : ℕ} → desc ≡ type_at types node
    → count ≡ count_within levels desc.member_count
    → tree_at types levels node
    ≡ record {
      it = type_desc (node_from_table desc).numbers desc.name (members_from types levels count (node + 1)).it;
      next = (members_from types levels count (node + 1)).next;
    }
unfolding tree_at members_at node_at node_from_table
tree_counted types levels node {desc} {count} is-desc is_count =
    by_level levels ∙ (λ i. counted levels (sym is-desc i) (count_within levels (sym is-desc i).member_count)) ∙ ap (counted levels desc) (sym is_count)
  where
    counted : ℕ → TypeRecord → ℕ → BuiltAt (TypeDesc Text)
    counted l d n = record {
      it = type_desc (node_from_table d).numbers d.name (members_from types l n (node + 1)).it;
      next = (members_from types l n (node + 1)).next;
    }

    by_level : (l : ℕ) → tree_at types l node ≡ counted l (type_at types node) (count_within l (type_at types node).member_count)
    by_level zero = refl
    by_level (suc l) =
        let less : suc l - 1 ≡ l = omega arith in
        rw less

-- What is known of the records and the cursor once the members are placed.
pub record MembersDone (records-top : ℕ) (members : PlacedMembers) (s : List ℕ) : Type 0 where
  pub order : records-top ≤ members.records_top
  pub end : members.records_top ≤ records_start + type_room * member_width
  pub inside : members.records_top ≤ length s
  pub few : length (region records-top members.records_top s) ≤ type_room * member_width
  pub near : members.cursor.at ≤ farthest_offset

-- Writing the type at the cursor's node: the code has its node and how many members it counts.
module _ {chunk edits types : List ℕ} {levels base records-top : ℕ} {cursor : WriteCursor} {s : List ℕ} {desc : TypeRecord} {count : ℕ}
    (start : TypeReady chunk edits types levels base records-top cursor s) (is-desc : desc ≡ type_at types cursor.node)
    (is_count : count ≡ count_within levels desc.member_count) where
  abbrev members_are : BuiltAt (Members Text)
  members_are = members_from types levels count (cursor.node + 1)

  same_next : (tree_at types levels cursor.node).next ≡ members_are.next
  same_next = ap (λ (w : BuiltAt (TypeDesc Text)). w.next) (tree_counted types levels cursor.node is-desc is_count)

  module _ {s₁ out out₁ : List ℕ} {name : Placement}
      (named : TextPlaced chunk edits (place_type_name chunk edits desc.name) cursor.at inner_pool inner_start defaults_start s s₁ out out₁ name) where
    -- Where the members begin.
    abbrev inside : WriteCursor
    inside = record {
      at = name.at;
      node = cursor.node + 1;
      member_types = cursor.member_types;
      root_types = cursor.root_types;
    }

    pub members_ready : MembersReady chunk edits types levels count base records-top inside s₁
    members_ready = record {
      ready = named.ready;
      room = record {
        cursor = omega (arith, start.room.cursor, named.near_high);
        names = omega (arith, start.room.names, named.count_high);
        stacked = omega (arith, start.room.stacked);
        records_low = start.room.records_low;
        records_high = omega (arith, start.room.records_high);
      };
      within = omega (arith, start.within, same_next);
      flat = λ e. is_count ∙ within_none levels desc.member_count e;
    }

    module _ {sm5 : Bool} {s₂ out₂ : List ℕ} {members : PlacedMembers}
        (walked : MembersPlaced chunk edits types sm5 levels count base records-top inside s₁ s₂ out₁ out₂ members) where
      next_is : members.cursor.node ≡ (tree_at types levels cursor.node).next
      next_is = walked.next ∙ sym same_next

      records_end : members.records_top ≤ records_start + type_room * member_width
      records_end = omega (arith, walked.records, next_is, start.within, start.room.records_high)

      records_long : length (region records-top members.records_top s₂) ≡ members.records_top - records-top
      records_long =
          length_region records-top members.records_top s₂ (omega (arith, walked.pushed)) (omega (arith, records_end, walked.advanced.ready.long))

      -- Their records lie on the stack, in the scratch, and the cursor is not too far.
      pub members_done : MembersDone records-top members s₂
      members_done = record {
        order = omega (arith, walked.pushed);
        end = records_end;
        inside = omega (arith, records_end, walked.advanced.ready.long);
        few = omega (arith, records_long, records_end, start.room.records_low);
        near = omega (arith, walked.advanced.near, next_is, start.within, named.near_high, start.room.cursor);
      }

      pub type_written : {out₃ : List ℕ} {placed : Placement}
          → TypePut sm5 (node_from_table desc).numbers name.offset (region records-top members.records_top s₂) members.cursor.at out₂ out₃ placed
          → TypeWritten chunk edits types sm5 levels base records-top cursor s s₂ out out₃
          (record { offset = placed.offset; cursor = with_at members.cursor placed.at })
      unfolding write_tree write_type close_type append_records type_tree
      type_written {out₃} {placed} put = record {
        ran = λ ts.
            let pools_after = pools_in s₂ ts (member_tree types levels) base members.cursor.member_types in
            subst
            (λ (w : BuiltAt (TypeDesc Text)). Simulates chunk edits (write_tree (text_facts chunk edits) sm5 w.it) cursor.at
            (pools_in s ts (member_tree types levels) base cursor.member_types) out out₃ placed.offset placed.at pools_after)
            (sym (tree_counted types levels cursor.node is-desc is_count))
            (ran_bind chunk edits _ (named.ran ts (member_tree types levels) base cursor.member_types)
            (ran_bind chunk edits _ (walked.ran ts)
            (put.ran chunk edits pools_after (member_count members_are.it) (omega (arith, records_long, walked.pushed)))));
        next = next_is;
        advanced = record {
          ready = walked.advanced.ready;
          more = walked.advanced.more;
          stacked = omega (arith, walked.advanced.stacked);
          names = omega (arith, walked.advanced.names, named.count_high);
          near = omega (arith, put.near, records_long, walked.advanced.near, walked.pushed, named.near_high);
        };
        keeps = keeps_then (keeps_names (base + cursor.member_types) records-top named.kept) walked.keeps (omega arith) (omega arith);
        same_roots = walked.same_roots;
      }

-- A type's name: nothing where it is empty.
module _ {chunk edits : List ℕ} (name : Text) {at : ℕ} {s out : List ℕ} where
  pub name_empty : PoolsReady chunk edits s → length (text_bytes chunk edits name) ≡ 0
      → TextPlaced chunk edits (place_type_name chunk edits name) at inner_pool inner_start defaults_start s s out out (record { offset = 0; at = at })
  unfolding text_facts through bytes_facts
  name_empty ready e = record {
    ran = λ types tree base n.
        ran_empty chunk edits (length (text_bytes chunk edits name)) (place_inner_name (text_facts chunk edits) name) at (pools_in s types tree base n) out e;
    ready = ready;
    kept = kept_same inner_start defaults_start s;
    count_low = omega arith;
    count_high = omega arith;
    near_low = omega arith;
    near_high = omega arith;
  }

  pub name_placed : {s' out' : List ℕ} {r : Placement} → (length (text_bytes chunk edits name) ≡ 0 → ⊥)
      → TextPlaced chunk edits (place_inner_name (text_facts chunk edits) name) at inner_pool inner_start defaults_start s s' out out' r
      → TextPlaced chunk edits (place_type_name chunk edits name) at inner_pool inner_start defaults_start s s' out out' r
  unfolding text_facts through bytes_facts
  name_placed some placed = record {
    ran = λ types tree base n. ran_unless_empty chunk edits (length (text_bytes chunk edits name)) some (placed.ran types tree base n);
    ready = placed.ready;
    kept = placed.kept;
    count_low = placed.count_low;
    count_high = placed.count_high;
    near_low = placed.near_low;
    near_high = placed.near_high;
  }
