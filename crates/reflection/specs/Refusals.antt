-- Document 01's table of refusals: the number of each, with its reason.
use Rattle.std.specs.Prelude.{◌≡◌, ◌≢◌, ℕ, Result, MatchResult}
use Rattle.reflection.specs.declared.refusal.Refusal.{Refusal}
use Rattle.reflection.specs.declared.refusal.Refusal.TheVariants.{ChunkTooShort, ChunkTooLong, BadVersion, BadCreator, Rd11Missing, BadRd11}
use Rattle.reflection.specs.declared.refusal.Refusal.TheVariants.{RecordPastEnd, BadInputType, BadDimension, BadBindingFlags, BadName}
use Rattle.reflection.specs.declared.refusal.Refusal.TheVariants.{DefaultPastEnd, TypeTooDeep, TypeCycle, NoRoom, NotReadable, OutputTooSmall}
use Rattle.reflection.specs.declared.refusal.Refusal.TheVariants.{NoSpelling}
use Rattle.reflection.specs.declared.refusal.UnknownRefusal.{UnknownRefusal}

abbrev pub refusal_number : Refusal → ℕ
-- Chunk under 28 bytes.
refusal_number ChunkTooShort = 1
-- Chunk over 65,536 bytes.
refusal_number ChunkTooLong = 2
-- Major version not 4 or 5.
refusal_number BadVersion = 3
-- Creator offset past the end, no NUL after it, or not UTF-8.
refusal_number BadCreator = 4
-- Major 5 under 60 bytes.
refusal_number Rd11Missing = 5
-- An RD11 word not allowed.
refusal_number BadRd11 = 6
-- A record or descriptor runs past the chunk.
refusal_number RecordPastEnd = 7
-- Input type above 13.
refusal_number BadInputType = 8
-- Dimension above 11.
refusal_number BadDimension = 9
-- Binding flags outside 0x1f.
refusal_number BadBindingFlags = 10
-- Another string is bad, as the creator in 4.
refusal_number BadName = 11
-- A default runs past the chunk.
refusal_number DefaultPastEnd = 12
-- Type depth above 64, the root at 0.
refusal_number TypeTooDeep = 13
-- A descriptor that is already on the path.
refusal_number TypeCycle = 14
-- No room for one more record or node; scratch too short.
refusal_number NoRoom = 15
-- The reflection is not readable; a name out of place or not UTF-8.
refusal_number NotReadable = 16
-- Output too small, or over 65,536 bytes.
refusal_number OutputTooSmall = 17
-- No spelling, or spelling not understood.
refusal_number NoSpelling = 18

-- What a number answers as: the refusal that has it, or the number itself where no refusal has it.
abbrev pub FromNumber : ℕ → Result Refusal UnknownRefusal → Type 0
FromNumber n r = MatchResult r (λ e. refusal_number e ≡ n) (λ u. (u.0 ≡ n) × ((e : Refusal) → refusal_number e ≢ n))
