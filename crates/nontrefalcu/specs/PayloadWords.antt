-- What the exported payload function answers: numbers, for a reflection whose header is given by its words (docs/ROOM.md has the layout).
use Rattle.reflection.specs.Outcome.{Outcome}
use Rattle.std.specs.Prelude.{List, [], ◌∷◌, ℕ, ◌≤◌, length, Ok, Err}
use Rattle.reflection.specs.Limits.{chunk_limit}
use Rattle.readable.specs.Readable.{table_contents}
use Rattle.write_spec.specs.Payload.{Part, whole_chunk, written}
use Rattle.payload.specs.declared.Payload.{Payload}
use Rattle.payload.specs.declared.Payload.TheVariants.{Chunk, Output}
use Rattle.payload.specs.Answer.{room_enough, payload_with}
use Rattle.nontrefalcu.specs.Exports.{result_table, header_at}

-- What is handed out of a payload: 0 for the chunk or 1 for the output, and how many bytes.
unfoldable pub payload_words : List ℕ → Part → List ℕ
payload_words chunk whole_chunk = 0 ∷ length chunk ∷ []
payload_words chunk (written bytes) = 1 ∷ length bytes ∷ []

abbrev pub payload_table : List ℕ → Outcome Part → ℕ → List ℕ
payload_table chunk out n = result_table (payload_words chunk) out n

-- The payload of the reflection, for four tables to read the chunk into, scratch and an output as long as these.
unfoldable pub payload_into : List ℕ → List ℕ → List ℕ → List ℕ → List ℕ → List ℕ → List ℕ → List ℕ → List ℕ → List ℕ → List ℕ → List ℕ → List ℕ → Outcome Part
payload_into chunk edits header bindings buffers variables types foundBindings foundBuffers foundVariables foundTypes scratch out =
    payload_with
    (room_enough (length foundBindings) (length foundBuffers) (length foundVariables) (length foundTypes) (length scratch))
    (length out)
    chunk
    (table_contents chunk edits (header_at header) bindings buffers variables types)

-- Lengths that are words: the chunk's where the payload is the chunk, the written bytes' where it is the output.
abbrev pub PayloadFits : ℕ → Outcome Payload → Type 0
PayloadFits chunk (Ok Chunk) = chunk ≤ chunk_limit
PayloadFits chunk (Ok (Output n)) = n ≤ chunk_limit
PayloadFits chunk (Err e) = Unit

-- The words of the answer.
abbrev pub payload_pair : ℕ → Payload → List ℕ
payload_pair chunk Chunk = 0 ∷ chunk ∷ []
payload_pair chunk (Output n) = 1 ∷ n ∷ []

unfoldable pub payload_outcome : ℕ → Outcome Payload → Outcome (List ℕ)
payload_outcome chunk (Ok p) = Ok (payload_pair chunk p)
payload_outcome chunk (Err e) = Err e
