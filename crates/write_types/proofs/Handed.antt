-- The writer between two calls: where it stands after a name was placed, and that what was lent to it is handed on.
use mathlib.Core.Path.{◌≡◌, sym, ◌∙◌, subst}
use mathlib.Core.Bool.{Bool}
use mathlib.Core.List.{List}
use Prim.Native.Nat.{ℕ, ◌+◌}
use Rattle.write_texts.specs.Cursor.{WriteCursor}
use Rattle.write_texts.specs.Writer.{cursor_of, SameLent, SameTypes}
use Rattle.write_texts.specs.declared.writer.Writer.{Writer}
use Rattle.write_types.specs.Placed.{PlacedType, PlacedMembers}
use Rattle.write_types.specs.Room.{TypeReady, MembersReady}
use Rattle.write_types.specs.TypePlaced.{MemberTypePlaced, MembersPlaced}
use Rattle.write_types.proofs.Ready.{with_at, with_node_lem}

pub lent_then : {w₀ w₁ w₂ : Writer} → SameLent w₀ w₁ → SameLent w₁ w₂ → SameLent w₀ w₂
lent_then p q = record { scratch = q.scratch ∙ p.scratch; out = q.out ∙ p.out; bytes = q.bytes ∙ p.bytes }

-- The writer before and after a name was placed: only its scratch and its output are others.
module _ {w w' : Writer} (same : SameTypes w w') where
  named_cursor : cursor_of w' ≡ with_at (cursor_of w) w'.out.now.at
  named_cursor = λ i. record { at = w'.out.now.at; node = same.node i; member_types = same.member_types i; root_types = same.root_types i }

  -- With the node after it, where the members of a type begin.
  inside_cursor : with_node_lem (cursor_of w') (w'.node + 1) ≡ with_node_lem (with_at (cursor_of w) w'.out.now.at) (w.node + 1)
  inside_cursor = λ i. record { at = w'.out.now.at; node = same.node i + 1; member_types = same.member_types i; root_types = same.root_types i }

  module _ {chunk edits types : List ℕ} {levels base records-top : ℕ} {s : List ℕ} where
    pub type_ready_named : TypeReady chunk edits types levels base records-top (with_at (cursor_of w) w'.out.now.at) s
        → TypeReady chunk edits types levels base records-top (cursor_of w') s
    type_ready_named = subst (λ (to : WriteCursor). TypeReady chunk edits types levels base records-top to s) (sym named_cursor)

    pub type_placed_named : {sm5 : Bool} {s' out out' : List ℕ} {r : PlacedType}
        → MemberTypePlaced chunk edits types sm5 levels base records-top (cursor_of w') s s' out out' r
        → MemberTypePlaced chunk edits types sm5 levels base records-top (with_at (cursor_of w) w'.out.now.at) s s' out out' r
    type_placed_named {sm5} {s'} {out} {out'} {r} =
        subst (λ (to : WriteCursor). MemberTypePlaced chunk edits types sm5 levels base records-top to s s' out out' r) named_cursor

    pub members_ready_named : {count : ℕ}
        → MembersReady chunk edits types levels count base records-top (with_node_lem (with_at (cursor_of w) w'.out.now.at) (w.node + 1)) s
        → MembersReady chunk edits types levels count base records-top (with_node_lem (cursor_of w') (w'.node + 1)) s
    members_ready_named {count} = subst (λ (to : WriteCursor). MembersReady chunk edits types levels count base records-top to s) (sym inside_cursor)

    pub members_placed_named : {sm5 : Bool} {count : ℕ} {s' out out' : List ℕ} {r : PlacedMembers}
        → MembersPlaced chunk edits types sm5 levels count base records-top (with_node_lem (cursor_of w') (w'.node + 1)) s s' out out' r
        → MembersPlaced chunk edits types sm5 levels count base records-top (with_node_lem (with_at (cursor_of w) w'.out.now.at) (w.node + 1)) s s' out out' r
    members_placed_named {sm5} {count} {s'} {out} {out'} {r} =
        subst (λ (to : WriteCursor). MembersPlaced chunk edits types sm5 levels count base records-top to s s' out out' r) inside_cursor
