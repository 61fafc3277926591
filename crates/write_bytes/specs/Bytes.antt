-- Vocabulary of internal contracts: no contract of an exported function and no demand cites it.
-- The bytes of words, as they stand in the chunk.
use Rattle.std.specs.Prelude.{List, [], ◌∷◌, ◌++◌, ℕ}
use Rattle.words.specs.Words.{word_bytes}

-- The four bytes of each word, one word after the other.
unfoldable pub joined_bytes : List ℕ → List ℕ
joined_bytes [] = []
joined_bytes (w ∷ ws) = word_bytes w ++ joined_bytes ws
