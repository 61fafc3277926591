-- Well-formed UTF-8: Unicode's Table 3-7, Well-Formed UTF-8 Byte Sequences (document 01, refusals 4 and 11).
use Rattle.std.specs.Prelude.{Bool, true, false, ◌&&◌, cond, List, [], ◌∷◌, ℕ, leb}

-- One column of a row: the lowest and the highest byte that may stand there.
pub record Span : Type 0 where
  pub low : ℕ
  pub high : ℕ

-- One row: its first column, and the columns after it.
pub record Row : Type 0 where
  pub first : Span
  pub others : List Span

abbrev pub holds : Span → ℕ → Bool
holds s b = leb s.low b && leb b s.high

abbrev pub tail : Span
tail = record { low = 0x80; high = 0xbf }

-- The table, row by row.
abbrev pub table37 : List Row
table37 =
    record { first = record { low = 0x00; high = 0x7f }; others = [] }
    ∷ record { first = record { low = 0xc2; high = 0xdf }; others = tail ∷ [] }
    ∷ record { first = record { low = 0xe0; high = 0xe0 }; others = record { low = 0xa0; high = 0xbf } ∷ tail ∷ [] }
    ∷ record { first = record { low = 0xe1; high = 0xec }; others = tail ∷ tail ∷ [] }
    ∷ record { first = record { low = 0xed; high = 0xed }; others = record { low = 0x80; high = 0x9f } ∷ tail ∷ [] }
    ∷ record { first = record { low = 0xee; high = 0xef }; others = tail ∷ tail ∷ [] }
    ∷ record { first = record { low = 0xf0; high = 0xf0 }; others = record { low = 0x90; high = 0xbf } ∷ tail ∷ tail ∷ [] }
    ∷ record { first = record { low = 0xf1; high = 0xf3 }; others = tail ∷ tail ∷ tail ∷ [] }
    ∷ record { first = record { low = 0xf4; high = 0xf4 }; others = record { low = 0x80; high = 0x8f } ∷ tail ∷ tail ∷ [] }
    ∷ []

-- What the bytes so far leave to come: the columns of the row that was begun (none between two sequences), or nothing that could be right.
pub data Left : Type 0 where
  columns : List Span → Left
  ill_formed : Left

-- The row whose first column holds the byte.
abbrev pub begun : List Row → ℕ → Left
begun [] b = ill_formed
begun (r ∷ rs) b = cond (holds r.first b) (columns r.others) (begun rs b)

-- One byte more.
abbrev pub step : Left → ℕ → Left
step ill_formed b = ill_formed
step (columns []) b = begun table37 b
step (columns (s ∷ ss)) b = cond (holds s b) (columns ss) ill_formed

unfoldable pub run : Left → List ℕ → Left
run l [] = l
run l (b ∷ bs) = run (step l b) bs

-- Nothing is left to come.
abbrev pub whole : Left → Bool
whole ill_formed = false
whole (columns []) = true
whole (columns (s ∷ ss)) = false

-- The bytes are well-formed sequences, one after the other.
unfoldable pub well_formed : List ℕ → Bool
well_formed bs = whole (run (columns []) bs)
