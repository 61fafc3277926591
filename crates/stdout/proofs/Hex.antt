-- The hex of one byte more.
use Rattle.std.proofs.Common.{◌≡◌, ℕ, ◌+◌, ◌/◌, ◌%◌, ◌<◌, List, [], ◌∷◌, ◌++◌, length, take, get_or, refl, ap, ◌∙◌}
use Rattle.std.proofs.lemmas.List.{take_more}
use Rattle.text_output.specs.Digits.{hex_digit}
use Rattle.stdout.specs.Output.{hex_digits}

digits_append : (xs ys : List ℕ) → hex_digits (xs ++ ys) ≡ hex_digits xs ++ hex_digits ys
digits_append [] ys = refl
digits_append (x ∷ xs) ys = ap (λ l. hex_digit (x / 16) ∷ hex_digit (x % 16) ∷ l) (digits_append xs ys)

pub digits_next : (xs : List ℕ) (i : ℕ) → i < length xs
    → hex_digits (take (i + 1) xs) ≡ hex_digits (take i xs) ++ hex_digit (get_or xs i 0 / 16) ∷ hex_digit (get_or xs i 0 % 16) ∷ []
digits_next xs i h = ap hex_digits (take_more xs i 0 h) ∙ digits_append (take i xs) (get_or xs i 0 ∷ [])
