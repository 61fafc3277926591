-- A step of reading: from the room left to a refusal, or to a result and the room left. The first fault met ends the walk.
use Rattle.reflection.specs.Outcome.{Outcome}
use Rattle.text.specs.declared.Span.{Span}
use Rattle.reflection.specs.declared.refusal.Refusal.{Refusal}
use Rattle.read_spec.specs.declared.Counts.{Counts}
use Rattle.reflection.specs.declared.refusal.Refusal.TheVariants.{NoRoom}
use Rattle.std.specs.Prelude.{Bool, true, false, ℕ, zero, suc, ◌/◌, min, Option, None, Ok, Err, Some}
use Rattle.reflection.specs.declared.Text.{Text}
use Rattle.reflection.specs.Texts.{in_chunk}
use Rattle.reflection.specs.Limits.{binding_room, buffer_room, variable_room, type_room, binding_width, buffer_width, variable_width, type_width}

-- What a walk answers: how many records each table then has, or why it refused.
abbrev pub Walk : Type 0
Walk = Outcome Counts

-- How many records each table can still take.
pub record Room : Type 0 where
  pub bindings : ℕ
  pub buffers : ℕ
  pub variables : ℕ
  pub types : ℕ

abbrev pub room : ℕ → ℕ → ℕ → ℕ → Room
room b f v t = record { bindings = b; buffers = f; variables = v; types = t }

-- Document 01, "Room".
abbrev pub full_room : Room
full_room = room binding_room buffer_room variable_room type_room

-- The room of tables of that many words: whole records, at most document 01's room.
unfoldable pub room_of : ℕ → ℕ → ℕ → ℕ → Room
room_of b f v t =
    room (min (b / binding_width) binding_room) (min (f / buffer_width) buffer_room) (min (v / variable_width) variable_room) (min (t / type_width) type_room)

abbrev pub ReadStep : Type 0 → Type 0
ReadStep A = Room → Outcome (A × Room)

abbrev pub and_then : {A B : Type 0} → Outcome (A × Room) → (A → ReadStep B) → Outcome (B × Room)
and_then (Ok p) f = f p.0 p.1
and_then (Err e) f = Err e

infixl 20 ◌>>=◌
unfoldable pub ◌>>=◌ : {A B : Type 0} → ReadStep A → (A → ReadStep B) → ReadStep B
◌>>=◌ m f r = and_then (m r) f

unfoldable pub return : {A : Type 0} → A → ReadStep A
return a r = Ok (a, r)

unfoldable pub refuse : {A : Type 0} → Refusal → ReadStep A
refuse e r = Err e

-- Goes on where the test holds.
unfoldable pub check : Bool → Refusal → ReadStep (Unit {0})
check true e = return tt
check false e = refuse e

-- A text of the chunk, or a refusal where there is none.
unfoldable pub text_or : Refusal → Option Span → ReadStep Text
text_or e (Some found) = return (in_chunk found.place found.length)
text_or e None = refuse e

-- One record less; a refusal where none is left.
abbrev pub one_less : ℕ → (ℕ → Room) → Outcome (Unit {0} × Room)
one_less zero left = Err NoRoom
one_less (suc n) left = Ok (tt, left n)

unfoldable pub take_binding : ReadStep (Unit {0})
take_binding r = one_less r.bindings (λ n. room n r.buffers r.variables r.types)

unfoldable pub take_buffer : ReadStep (Unit {0})
take_buffer r = one_less r.buffers (λ n. room r.bindings n r.variables r.types)

unfoldable pub take_variable : ReadStep (Unit {0})
take_variable r = one_less r.variables (λ n. room r.bindings r.buffers n r.types)

unfoldable pub take_type : ReadStep (Unit {0})
take_type r = one_less r.types (λ n. room r.bindings r.buffers r.variables n)
