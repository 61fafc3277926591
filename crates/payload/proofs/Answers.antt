-- The payload's answer, test by test: no room, a reflection that is not readable, one that the chunk reads as, and one that it does not. Each is a case of the
-- definition.
use Rattle.reflection.specs.Outcome.{Outcome}
use Rattle.reflection.specs.declared.refusal.Refusal.TheVariants.{NoRoom, NotReadable}
use Rattle.std.specs.Prelude.{Ok, Err, Option, None, Some}
use mathlib.Core.Path.{◌≡◌, refl}
use mathlib.Core.Bool.{Bool, true, false, ◌&&◌}
use Prim.Native.Nat.{ℕ, ◌≤◌}
use native.Mathlib.Omega.{arith}
use borrow.Author.Tests.{le-leb, leb-true}
use lib.Dec.{leb}
use Rattle.text.proofs.Bools.{and-true}
use Rattle.reflection.specs.Limits.{binding_table, buffer_table, variable_table, type_table}
use Rattle.reflection.specs.Reflection.{ResourceDef}
use Rattle.reflection.specs.Contents.{Bytes}
use Rattle.readable.specs.Readable.{is_readable}
use Rattle.text_output.specs.Written.{written_of, output_of}
use Rattle.write_spec.specs.Outcome.{scratch_size, canonical_or16, write}
use Rattle.write_spec.specs.Payload.{whole_chunk, as_part, payload_of, payload}
use Rattle.payload.specs.Answer.{room_enough, payload_with, payload_answer, payload_output, unedited_held, written_answer}

-- What the test of the room says.
pub record Enough (bindings buffers variables types scratch : ℕ) : Type 0 where
  pub bindings_long : binding_table ≤ bindings
  pub buffers_long : buffer_table ≤ buffers
  pub variables_long : variable_table ≤ variables
  pub types_long : type_table ≤ types
  pub scratch_long : scratch_size ≤ scratch

pub enough_long : (b f v t s : ℕ) → room_enough b f v t s ≡ true → Enough b f v t s
unfolding room_enough
enough_long b f v t s e =
    let (b-long, e₁) = and-true (leb binding_table b) (leb buffer_table f && (leb variable_table v && (leb type_table t && leb scratch_size s))) e in
    let (f-long, e₂) = and-true (leb buffer_table f) (leb variable_table v && (leb type_table t && leb scratch_size s)) e₁ in
    let (v-long, e₃) = and-true (leb variable_table v) (leb type_table t && leb scratch_size s) e₂ in
    let (t-long, s-long) = and-true (leb type_table t) (leb scratch_size s) e₃ in
    record {
      bindings_long = leb-true binding_table b b-long;
      buffers_long = leb-true buffer_table f f-long;
      variables_long = leb-true variable_table v v-long;
      types_long = leb-true type_table t t-long;
      scratch_long = leb-true scratch_size s s-long;
    }

module _ (enough : Bool) (room : ℕ) (chunk : Bytes) where
  pub no_room_lem : (r : Option (ResourceDef Bytes Bytes)) → enough ≡ false → payload_with enough room chunk r ≡ Err NoRoom
  unfolding payload_with
  no_room_lem r e = rw e

  pub not_readable_lem : (r : Option (ResourceDef Bytes Bytes)) → enough ≡ true → is_readable r ≡ false
      → payload_with enough room chunk r ≡ Err NotReadable
  unfolding payload_with payload payload_of
  not_readable_lem None e h = rw e
  not_readable_lem (Some r) e h = rw (e, h)

  pub the_chunk : (r : Option (ResourceDef Bytes Bytes)) → enough ≡ true → is_readable r ≡ true → unedited_held chunk r ≡ true
      → payload_with enough room chunk r ≡ Ok whole_chunk
  unfolding payload_with payload payload_of unedited_held
  the_chunk None e h u = absurd (let apart : ◌≡◌ {A = ℕ} 0 1 = cc in omega arith)
  the_chunk (Some r) e h u = rw (e, h, u)

  pub the_output : (scratch : ℕ) (r : Option (ResourceDef Bytes Bytes)) → scratch_size ≤ scratch → enough ≡ true → is_readable r ≡ true
      → unedited_held chunk r ≡ false → payload_with enough room chunk r ≡ as_part (write scratch room r)
  unfolding payload_with payload payload_of unedited_held write canonical_or16
  the_output scratch None long e h u = absurd (let apart : ◌≡◌ {A = ℕ} 0 1 = cc in omega arith)
  the_output scratch (Some r) long e h u = rw (e, le-leb scratch_size scratch long, h, u)

-- What was written, or why nothing was.
pub written_answer_lem : (o : Outcome Bytes) → payload_answer (as_part o) ≡ written_answer (written_of o)
unfolding payload_answer as_part written_answer written_of
written_answer_lem (Ok bytes) = refl
written_answer_lem (Err e) = refl

pub written_output : (o : Outcome Bytes) (out : Bytes) → payload_output (as_part o) out ≡ output_of o out
unfolding payload_output as_part output_of
written_output (Ok bytes) out = refl
written_output (Err e) out = refl
