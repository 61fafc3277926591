-- Vocabulary of internal contracts: no contract of an exported function and no demand cites it.
-- Well-formed UTF-8 by each byte and the three before it, as `utf8_ok` tests long texts: proofs/Neighbours.antt shows that it is Table 3-7.
use Rattle.std.specs.Prelude.{Bool, not, ◌&&◌, ◌||◌, cond, List, [], ◌∷◌, ℕ, ltb, leb}
use Rattle.text.specs.Sequences.{lowest_after, highest_after}

-- A sequence that one of the three bytes began goes on after them. The nearest byte comes last.
abbrev pub tail_due : ℕ → ℕ → ℕ → Bool
tail_due p3 p2 p1 = (leb 0xc0 p1 || leb 0xe0 p2) || leb 0xf0 p3

-- A byte that may come after another inside a sequence, and one that may begin a sequence.
abbrev pub may_follow : ℕ → ℕ → Bool
may_follow p1 b = leb (lowest_after p1) b && leb b (highest_after p1)

abbrev pub may_begin : ℕ → Bool
may_begin b = ltb b 0x80 || (leb 0xc2 b && ltb b 0xf5)

-- A byte fits after the three before it: it goes on with their sequence, or begins one where they leave none open.
unfoldable pub fits : ℕ → ℕ → ℕ → ℕ → Bool
fits p3 p2 p1 b = cond (tail_due p3 p2 p1) (may_follow p1 b) (may_begin b)

-- Every byte fits after the three before it, and no sequence is cut short.
unfoldable pub fits_from : ℕ → ℕ → ℕ → List ℕ → Bool
fits_from p3 p2 p1 [] = not (tail_due p3 p2 p1)
fits_from p3 p2 p1 (b ∷ bs) = fits p3 p2 p1 b && fits_from p2 p1 b bs
