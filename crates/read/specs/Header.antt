-- Vocabulary of internal contracts: no contract of an exported function and no demand cites it.
-- What the header's reading says of the whole: the contract of `read_header`.
use Rattle.reflection.specs.Outcome.{Outcome}
use Rattle.reflection.specs.declared.refusal.Refusal.TheVariants.{Rd11Missing, BadRd11}
use Rattle.std.specs.Prelude.{◌≡◌, Bool, true, false, List, ℕ, ◌≤◌, leb, length, Ok, Err}
use Rattle.words.specs.Words.{word_at}
use Rattle.reflection.specs.Limits.{chunk_limit}
use Rattle.reflection.specs.Strides.{rd11_header_size}
use Rattle.reflection.specs.Reflection.{Rd11, no_rd11, rd11, is_wide}
use Rattle.read_spec.specs.Step.{Room}
use Rattle.read_spec.specs.Read.{read_chunk, read_tables, chunk_rd11_allowed}
use Rattle.read.specs.declared.ChunkHeader.{ChunkHeader}

-- The RD11 words of a chunk of major 5; none of major 4.
unfoldable pub rd11_from_chunk : List ℕ → Bool → Rd11
rd11_from_chunk s false = no_rd11
rd11_from_chunk s true = rd11 (word_at s 28) (word_at s 40) (word_at s 56)

-- Whether the RD11 words are there and allowed.
unfoldable pub rd11_check : List ℕ → Outcome (Unit {0})
rd11_check s = elim (leb rd11_header_size (length s)) [ true ↦ elim (chunk_rd11_allowed s) [ true ↦ Ok tt | false ↦ Err BadRd11 ] | false ↦ Err Rd11Missing ]

-- A refusal is the answer for every room; a valid header leaves the tables to be read.
abbrev pub Headed : List ℕ → Outcome ChunkHeader → Type 0
Headed s (Err e) = (r : Room) → read_chunk s r ≡ Err e
Headed s (Ok h) =
    (length s ≤ chunk_limit)
    × ((h.wide ≡ is_wide (rd11_from_chunk s h.sm5)) × ((r : Room) → read_chunk s r ≡ read_tables s h.creator (rd11_from_chunk s h.sm5) r))
