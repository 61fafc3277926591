-- C strings in a chunk: document 01, refusals 4 and 11 (`read_cstring_checked` in the Rust).
use Rattle.std.specs.Prelude.{Option, Some, None, Bool, true, false, not, ◌&&◌, List, [], ◌∷◌, ℕ, suc, ◌+◌, ◌≤◌, eqb, take, drop}
use Rattle.text.specs.Utf8.{well_formed}
use Rattle.text.specs.declared.Span.{Span}

-- Bytes by their place and their number.
abbrev pub span : ℕ → ℕ → Span
span place n = record { place = place; length = n }

-- The bytes up to the first NUL: they begin at `place`, `n` of them stand before the list.
unfoldable pub until_nul : List ℕ → ℕ → ℕ → Option Span
until_nul [] place n = None
until_nul (b ∷ bs) place n = elim (eqb b 0) [ true ↦ Some (span place n) | false ↦ until_nul bs place (suc n) ]

-- The same, if it is UTF-8.
unfoldable pub if_well_formed : List ℕ → Option Span → Option Span
if_well_formed s (Some w) = elim (well_formed (take w.length (drop w.place s))) [ true ↦ Some w | false ↦ None ]
if_well_formed s None = None

-- The string at an offset: none where the offset lies past the end, where no NUL follows, or where it is not UTF-8.
unfoldable pub cstring_at : List ℕ → ℕ → Option Span
cstring_at s at = if_well_formed s (until_nul (drop at s) at 0)

-- No byte is NUL, as in a name that is written with one after it.
unfoldable pub without_nul : List ℕ → Bool
without_nul [] = true
without_nul (b ∷ bs) = not (eqb b 0) && without_nul bs

-- What was found lies within n bytes.
abbrev pub FoundWithin : ℕ → Option Span → Type 0
FoundWithin n (Some w) = w.place + w.length ≤ n
FoundWithin n None = Unit
