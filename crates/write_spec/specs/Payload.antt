-- The payload: "where fields, names and defaults still equal those the chunk reads as, the chunk itself is handed back and the output buffer is untouched,
-- else the output's written part" (document 01, "What a reflection holds").
use Rattle.reflection.specs.Outcome.{Outcome}
use Rattle.reflection.specs.declared.refusal.Refusal.TheVariants.{NotReadable}
use Rattle.std.specs.Prelude.{Bool, false, cond, [], ℕ, Option, None, Some, Ok, Err}
use Rattle.text.specs.Same.{same_bytes}
use Rattle.reflection.specs.declared.Text.{Text}
use Rattle.reflection.specs.Reflection.{ResourceDef}
use Rattle.reflection.specs.Contents.{Bytes, contents}
use Rattle.read_spec.specs.Step.{full_room}
use Rattle.read_spec.specs.Read.{read}
use Rattle.readable.specs.Readable.{readable_contents}
use Rattle.text_output.specs.Written.{fitting}
use Rattle.write_spec.specs.Same.{same_def}
use Rattle.write_spec.specs.Canonical.{canonical}

-- Whether a chunk reads as these contents, with document 01's whole room. A chunk that does not read is just not equal.
abbrev pub read_as : Bytes → Outcome (ResourceDef Text Text) → ResourceDef Bytes Bytes → Bool
read_as chunk (Ok found) r = same_def same_bytes same_bytes (contents chunk [] found) r
read_as chunk (Err e) r = false

unfoldable pub unedited : Bytes → ResourceDef Bytes Bytes → Bool
unedited chunk r = read_as chunk (read full_room chunk) r

-- What is handed back: the chunk, or what was written to the output.
pub data Part : Type 0 where
  whole_chunk : Part
  written : Bytes → Part

-- Its bytes.
unfoldable pub handed_back : Bytes → Part → Bytes
handed_back chunk whole_chunk = chunk
handed_back chunk (written bytes) = bytes

unfoldable pub as_part : Outcome Bytes → Outcome Part
as_part (Ok bytes) = Ok (written bytes)
as_part (Err e) = Err e

-- 16, then the chunk if it is unedited (with no 17, however short the output), then 17 or the canonical form.
unfoldable pub payload_of : ℕ → Bytes → ResourceDef Bytes Bytes → Outcome Part
payload_of room chunk r =
    cond (readable_contents r) (cond (unedited chunk r) (Ok whole_chunk) (as_part (fitting room (Ok (canonical r))))) (Err NotReadable)

unfoldable pub payload : ℕ → Bytes → Option (ResourceDef Bytes Bytes) → Outcome Part
payload room chunk None = Err NotReadable
payload room chunk (Some r) = payload_of room chunk r
