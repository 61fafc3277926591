-- Numbers as text.
use Rattle.std.specs.Prelude.{cond, List, [], ◌∷◌, ℕ, zero, suc, ◌+◌, ◌/◌, ◌%◌, ltb}

-- The digits of n in a base, before those that are there; at most so many.
unfoldable pub digits_before : (ℕ → ℕ) → ℕ → ℕ → ℕ → List ℕ → List ℕ
digits_before digit base zero n after = after
digits_before digit base (suc most) n after =
    cond (ltb n base) (digit n ∷ after) (digits_before digit base most (n / base) (digit (n % base) ∷ after))

-- `0` to `9`; `0` to `9`, `a` to `f`.
abbrev pub decimal_digit : ℕ → ℕ
decimal_digit n = 48 + n

abbrev pub hex_digit : ℕ → ℕ
hex_digit n = cond (ltb n 10) (48 + n) (87 + n)

-- A number below 2^32 in decimal and in lower-case hex, without leading zeros; ten digits and eight are enough.
unfoldable pub decimal : ℕ → List ℕ
decimal n = digits_before decimal_digit 10 10 n []

unfoldable pub hex : ℕ → List ℕ
hex n = digits_before hex_digit 16 8 n []
