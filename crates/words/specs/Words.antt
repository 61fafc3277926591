-- Little-endian numbers in bytes (document 01, "Walk order": the header's words; a type's 16-bit fields are halves of its words).
use Rattle.std.specs.Prelude.{Bool, true, false, List, [], ◌∷◌, ℕ, ◌+◌, ◌*◌, ◌/◌, ◌%◌, get_or}

-- The two bytes at `at`, the lowest first. A byte past the end counts as 0: whoever reads tests the range first.
unfoldable pub half_at : List ℕ → ℕ → ℕ
half_at s at = get_or s at 0 + 256 * get_or s (at + 1) 0

-- The four bytes at `at`, the lowest first.
unfoldable pub word_at : List ℕ → ℕ → ℕ
word_at s at = get_or s at 0 + get_or s (at + 1) 0 * 256 + get_or s (at + 2) 0 * 65536 + get_or s (at + 3) 0 * 16777216

-- The word at `at` of a record that may have it, else 0.
unfoldable pub word_if : Bool → List ℕ → ℕ → ℕ
word_if false s at = 0
word_if true s at = word_at s at

-- The lower and the upper half of the word at `at`.
unfoldable pub low_at : List ℕ → ℕ → ℕ
low_at s at = word_at s at % 65536

unfoldable pub high_at : List ℕ → ℕ → ℕ
high_at s at = word_at s at / 65536

-- The four bytes of a number below 2^32.
unfoldable pub word_bytes : ℕ → List ℕ
word_bytes n = n % 256 ∷ n / 256 % 256 ∷ n / 256 / 256 % 256 ∷ n / 256 / 256 / 256 % 256 ∷ []
