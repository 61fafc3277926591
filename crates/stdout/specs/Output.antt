-- The bytes that the functions of `stdout` write.
use Rattle.std.specs.Prelude.{List, [], ◌∷◌, ◌++◌, ℕ, ◌/◌, ◌%◌}
use Rattle.std.specs.Fmt.{decimal}
use Rattle.text_output.specs.Ascii.{ascii}
use Rattle.text_output.specs.Digits.{hex_digit}

-- Numbers in decimal, with a tab before each.
abbrev pub fields : List ℕ → List ℕ
fields [] = []
fields (n ∷ ns) = 9 ∷ decimal n ++ fields ns

-- The two digits of each byte.
abbrev pub hex_digits : List ℕ → List ℕ
hex_digits [] = []
hex_digits (b ∷ bs) = hex_digit (b / 16) ∷ hex_digit (b % 16) ∷ hex_digits bs

-- Bytes in hex; `-` where there are none.
abbrev pub hex : List ℕ → List ℕ
hex [] = 45 ∷ []
hex (b ∷ bs) = hex_digits (b ∷ bs)

-- The line of a refusal: `refused`, a tab, the number.
abbrev pub refused_line : ℕ → List ℕ
refused_line number = ascii "refused" ++ 9 ∷ decimal number ++ 10 ∷ []
