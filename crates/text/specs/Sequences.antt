-- Vocabulary of internal contracts: no contract of an exported function and no demand cites it.
-- Table 3-7 by the first byte of a sequence: how many bytes follow it, and between which the second lies. `utf8_ok` goes by these numbers;
-- proofs/Sequences.antt shows that they are the table's.
use Rattle.std.specs.Prelude.{cond, ℕ, eqb, ltb}

-- How many bytes follow the first byte of a sequence of two to four bytes; 0 where no such sequence begins so.
unfoldable pub tails_after : ℕ → ℕ
tails_after b = cond (ltb b 0xc2) 0 (cond (ltb b 0xe0) 1 (cond (ltb b 0xf0) 2 (cond (ltb b 0xf5) 3 0)))

-- The lowest and the highest byte that may follow a first one.
unfoldable pub lowest_after : ℕ → ℕ
lowest_after b = cond (eqb b 0xe0) 0xa0 (cond (eqb b 0xf0) 0x90 0x80)

unfoldable pub highest_after : ℕ → ℕ
highest_after b = cond (eqb b 0xed) 0x9f (cond (eqb b 0xf4) 0x8f 0xbf)
