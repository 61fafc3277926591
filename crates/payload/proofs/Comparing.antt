-- What `unedited` compares: the reflection that the given tables hold, which is readable, with the one that the chunk was read as. Both are what decoding their
-- tables gives, so they are what the tables hold record by record, within the room; and the chunk was read with the whole room.
use Rattle.reflection.specs.Outcome.{Outcome}
use Rattle.std.proofs.lemmas.Option.{same_Some}
use Rattle.reflection.specs.declared.refusal.Refusal.{Refusal}
use Rattle.std.specs.Prelude.{Ok, Err}
use mathlib.Core.Path.{◌≡◌, sym, ap, ◌∙◌}
use mathlib.Core.Bool.{false}
use mathlib.Core.List.{List, []}
use Prim.Native.Nat.{ℕ, ◌/◌, ◌≤◌, ◌<◌, min}
use native.Mathlib.Omega.{arith}
use lib.ListN.{length, get_or}
use Rattle.text.specs.Same.{same_bytes}
use Rattle.reflection.specs.Limits.{binding_table, buffer_table, variable_table, type_table, binding_room, buffer_room, variable_room, type_room}
use Rattle.reflection.specs.declared.Text.{Text}
use Rattle.reflection.specs.declared.ResourceDef.{ResourceDef as Header}
use Rattle.reflection.specs.Reflection.{ResourceDef}
use Rattle.tables.specs.Records.{binding_width, buffer_width, variable_width, type_width}
use Rattle.reflection.specs.Contents.{Bytes, contents}
use Rattle.read_spec.specs.Step.{Room, room, room_of, full_room}
use Rattle.read_spec.specs.Read.{read}
use Rattle.readable.specs.Readable.{table_contents, readable}
use Rattle.readable.proofs.ReadableTables.{Readable, readable_holds}
use Rattle.readable.proofs.Reading.{tables_at_most_full, read_readable}
use Rattle.read.specs.Parsed.{read_into}
use Rattle.read.proofs.Held.{Held}
use Rattle.read.proofs.Decoded as reading-back
use Rattle.write_spec.specs.Same.{same_def}
use Rattle.write_spec.specs.Payload.{read_as, unedited}
use Rattle.compare_types.specs.Same.{same_name}
use Rattle.tables.specs.TableReflection.{reflection_in_tables}
use Rattle.tables.proofs.Decoded.{decoded}
use Rattle.payload.specs.Answer.{unedited_held}
use Rattle.payload.proofs.Contents.{same_contents}
use Rattle.payload.proofs.Found.{found_contents}

-- A readable reflection is what its tables hold, record by record.
as_held : (chunk edits : Bytes) (h : Header) (bindings buffers variables types : List ℕ) (holds : Readable chunk edits h bindings buffers variables types)
    → holds.def ≡ reflection_in_tables h bindings buffers variables types
as_held chunk edits h bindings buffers variables types holds = (decoded h bindings buffers variables types holds.def holds.decoded).is

-- The room of tables that are long enough is the whole room.
pub full_room_lem : (b f v t : ℕ) → binding_table ≤ b → buffer_table ≤ f → variable_table ≤ v → type_table ≤ t → room_of b f v t ≡ full_room
unfolding room_of
full_room_lem b f v t b-long f-long v-long t-long =
    let p : min (b / binding_width) binding_room ≡ binding_room = omega arith in
    let q : min (f / buffer_width) buffer_room ≡ buffer_room = omega arith in
    let r : min (v / variable_width) variable_room ≡ variable_room = omega arith in
    let s : min (t / type_width) type_room ≡ type_room = omega arith in
    λ i. room (p i) (q i) (r i) (s i)

-- What was read into the tables `found`, and so is in them.
module _ (chunk : Bytes) (bytes : (i : ℕ) → get_or chunk i 0 < 256) (b f v t : List ℕ) {nb nf nv nt : ℕ}
    {h : Header} {bindings buffers variables types : List ℕ}
    (found : Held (read_into chunk b f v t) nb nf nv nt h bindings buffers variables types) where
  pub found_readable : Readable chunk [] h bindings buffers variables types
  unfolding read_into
  found_readable =
      let lent = tables_at_most_full (length b) (length f) (length v) (length t) in
      readable_holds chunk [] h bindings buffers variables types
      ((λ i. readable chunk [] (found.header i) (found.in_bindings i) (found.in_buffers i) (found.in_variables i) (found.in_types i))
      ∙ read_readable chunk [] bytes (room_of (length b) (length f) (length v) (length t)) lent found.def found.is (omega arith) nb nf nv nt)

  found_def : found_readable.def ≡ found.def
  found_def = same_Some found_readable.def found.def (sym found_readable.decoded ∙ reading-back.decoded chunk b f v t found)

  pub found_held : found.def ≡ reflection_in_tables h bindings buffers variables types
  found_held = sym found_def ∙ as_held chunk [] h bindings buffers variables types found_readable

-- The two answers, for a reflection that is readable and a chunk that was read with the whole room.
module _ (chunk edits : Bytes) (h : Header) (bindings buffers variables types : List ℕ) (holds : Readable chunk edits h bindings buffers variables types)
    (b f v t : List ℕ) (whole : room_of (length b) (length f) (length v) (length t) ≡ full_room) where
  in_full_room : (out : Outcome (ResourceDef Text Text)) → read_into chunk b f v t ≡ out
      → unedited_held chunk (table_contents chunk edits h bindings buffers variables types) ≡ read_as chunk out (contents chunk edits holds.def)
  unfolding unedited_held unedited read_into
  in_full_room out e =
      ap (unedited_held chunk) holds.is_held
      ∙ ap (λ (o : Outcome (ResourceDef Text Text)). read_as chunk o (contents chunk edits holds.def)) (ap (λ (r : Room). read r chunk) (sym whole) ∙ e)

  pub unread_edited : (e : Refusal) → read_into chunk b f v t ≡ Err e
      → false ≡ unedited_held chunk (table_contents chunk edits h bindings buffers variables types)
  unread_edited e is = sym (in_full_room (Err e) is)

  pub read_compared : (bytes : (i : ℕ) → get_or chunk i 0 < 256) {nb nf nv nt : ℕ} {x : Header} {fb ff fv ft : List ℕ}
      (found : Held (read_into chunk b f v t) nb nf nv nt x fb ff fv ft)
      → same_def (same_name chunk edits) (same_name chunk edits) (reflection_in_tables x fb ff fv ft) (reflection_in_tables h bindings buffers variables types)
      ≡ unedited_held chunk (table_contents chunk edits h bindings buffers variables types)
  unfolding read_into
  read_compared bytes found =
      let own = sym (as_held chunk edits h bindings buffers variables types holds) in
      let other = sym (found_held chunk bytes b f v t found) in
      let same = sym (found_contents (room_of (length b) (length f) (length v) (length t)) chunk edits found.def found.is) in
      (λ i. same_def (same_name chunk edits) (same_name chunk edits) (other i) (own i))
      ∙ sym (same_contents chunk edits found.def holds.def)
      ∙ (λ i. same_def same_bytes same_bytes (same i) (contents chunk edits holds.def))
      ∙ sym (in_full_room (Ok found.def) found.is)
