-- The canonical writer's whole answer, for any reflection, output and scratch (document 01, "Refusals" and "Room").
use Rattle.reflection.specs.Outcome.{Outcome}
use Rattle.reflection.specs.declared.refusal.Refusal.TheVariants.{NoRoom, NotReadable}
use Rattle.std.specs.Prelude.{cond, ℕ, leb, Option, None, Some, Ok, Err}
use Rattle.reflection.specs.Reflection.{ResourceDef}
use Rattle.reflection.specs.Contents.{Bytes}
use Rattle.readable.specs.Readable.{readable_contents}
use Rattle.text_output.specs.Written.{fitting}
use Rattle.write_spec.specs.Canonical.{canonical}

-- How many words of scratch the writer needs (docs/ROOM.md).
abbrev pub scratch_size : ℕ
scratch_size = 95360

-- The canonical form of what the tables hold; 16 where they hold nothing or it is not readable.
unfoldable pub canonical_or16 : Option (ResourceDef Bytes Bytes) → Outcome Bytes
canonical_or16 None = Err NotReadable
canonical_or16 (Some r) = cond (readable_contents r) (Ok (canonical r)) (Err NotReadable)

-- What is written, with so many words of scratch and so many bytes of output: 15 for short scratch, 16, 17, or the canonical form.
unfoldable pub write : ℕ → ℕ → Option (ResourceDef Bytes Bytes) → Outcome Bytes
write scratch room r = cond (leb scratch_size scratch) (fitting room (canonical_or16 r)) (Err NoRoom)
