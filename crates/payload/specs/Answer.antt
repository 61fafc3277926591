-- What `write_payload` answers and leaves in the output, and what part of the two buffers is handed back, by the definition of the payload.
use Rattle.reflection.specs.Outcome.{Outcome}
use Rattle.reflection.specs.declared.refusal.Refusal.TheVariants.{NoRoom, NotReadable}
use Rattle.text_output.specs.Written.{Written}
use Rattle.std.specs.Prelude.{◌≡◌, Bool, false, cond, ◌&&◌, List, [], ℕ, leb, length, replicate, Option, None, Some, Result, Ok, Err}
use Rattle.words.specs.Parts.{inside, part}
use Rattle.words.specs.Splice.{splice}
use Rattle.reflection.specs.Limits.{binding_table, buffer_table, variable_table, type_table}
use Rattle.reflection.specs.declared.ResourceDef.{ResourceDef as Header}
use Rattle.reflection.specs.Reflection.{ResourceDef}
use Rattle.reflection.specs.Contents.{Bytes}
use Rattle.readable.specs.Readable.{table_contents}
use Rattle.write_spec.specs.Outcome.{scratch_size}
use Rattle.write_spec.specs.Payload.{Part, whole_chunk, written, unedited, payload}
use Rattle.payload.specs.declared.Payload.{Payload}
use Rattle.payload.specs.declared.Payload.TheVariants.{Chunk, Output}

-- Whether tables of so many words hold document 01's whole room, and the scratch what the writer needs.
unfoldable pub room_enough : ℕ → ℕ → ℕ → ℕ → ℕ → Bool
room_enough bindings buffers variables types scratch =
    leb binding_table bindings && (leb buffer_table buffers && (leb variable_table variables && (leb type_table types && leb scratch_size scratch)))

-- The payload behind the test of the room: 15 comes first.
unfoldable pub payload_with : Bool → ℕ → Bytes → Option (ResourceDef Bytes Bytes) → Outcome Part
payload_with enough room chunk r = cond enough (payload room chunk r) (Err NoRoom)

-- The payload of the reflection that a header and four tables hold, with these tables, this scratch and this output lent: of them only the lengths count.
abbrev pub payload_into : List ℕ → List ℕ → List ℕ → List ℕ → List ℕ → Bytes → Bytes → Bytes → Header → List ℕ → List ℕ → List ℕ → List ℕ → Outcome Part
payload_into foundBindings foundBuffers foundVariables foundTypes scratch out chunk edits h bindings buffers variables types =
    payload_with (room_enough (length foundBindings) (length foundBuffers) (length foundVariables) (length foundTypes) (length scratch)) (length out) chunk
    (table_contents chunk edits h bindings buffers variables types)

-- The answer: the chunk, or so many bytes of the output; or the refusal.
unfoldable pub payload_answer : Outcome Part → Outcome Payload
payload_answer (Ok whole_chunk) = Ok Chunk
payload_answer (Ok (written bytes)) = Ok (Output (length bytes))
payload_answer (Err e) = Err e

-- What the output then holds: as it was, the bytes at its start, or zeros.
unfoldable pub payload_output : Outcome Part → Bytes → Bytes
payload_output (Ok whole_chunk) out = out
payload_output (Ok (written bytes)) out = splice out 0 bytes
payload_output (Err e) out = replicate (length out) 0

-- What `write_payload` leaves of an outcome: its answer, and what the output, which held `before`, holds after it.
pub record PayloadWritten (outcome : Outcome Part) (before after : Bytes) (r : Outcome Payload) : Type 0 where
  pub answer : r ≡ payload_answer outcome
  pub out : after ≡ payload_output outcome before

-- Whether the chunk reads as what the tables hold, where they hold something.
unfoldable pub unedited_held : Bytes → Option (ResourceDef Bytes Bytes) → Bool
unedited_held chunk None = false
unedited_held chunk (Some r) = unedited chunk r

-- The answer of a payload that was written, or that writing refused.
unfoldable pub written_answer : Written → Outcome Payload
written_answer (Ok n) = Ok (Output n)
written_answer (Err e) = Err e

-- The bytes that are handed back: the chunk, the first n bytes of the output where it has so many, or none.
unfoldable pub payload_part : {E : Type 0} → Bytes → Bytes → Result Payload E → Bytes
payload_part chunk out (Ok Chunk) = chunk
payload_part chunk out (Ok (Output n)) = part out 0 n
payload_part chunk out (Err e) = []

-- Whether they are the payload: else its own refusal, or that one where the output does not have so many bytes.
unfoldable pub payload_place_or : {E : Type 0} → E → ℕ → Result Payload E → Result (Unit {0}) E
payload_place_or e room (Ok Chunk) = Ok tt
payload_place_or e room (Ok (Output n)) = cond (inside room 0 n) (Ok tt) (Err e)
payload_place_or e room (Err refusal) = Err refusal

-- The same, with 16 for that one.
unfoldable pub payload_place : ℕ → Outcome Payload → Outcome (Unit {0})
payload_place = payload_place_or NotReadable
