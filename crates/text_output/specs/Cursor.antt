-- Vocabulary of internal contracts: no contract of an exported function and no demand cites it. The cursor of a text that is being written.
use Rattle.reflection.specs.declared.refusal.Refusal.TheVariants.{OutputTooSmall}
use Rattle.std.specs.Prelude.{cond, List, ℕ, ◌^◌, length, replicate, Ok, Err}
use Rattle.text_output.specs.Written.{fits_in, Written}

-- How far a cursor may be where a piece is put: a piece has fewer than 2^63 bytes, so the next cursor is no wrapped sum.
abbrev pub farthest : ℕ
farthest = 2 ^ 62

-- The answer at the end of writing, by the cursor: the length, where so many bytes fit; else 17.
unfoldable pub finished : ℕ → ℕ → Written
finished room at = cond (fits_in room at) (Ok at) (Err OutputTooSmall)

-- An output after an answer: as it was written, or zeros.
unfoldable pub kept : Written → List ℕ → List ℕ
kept (Ok n) out = out
kept (Err e) out = replicate (length out) 0
