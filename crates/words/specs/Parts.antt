-- Parts of a list: n elements from a place on, where they lie in it.
use Rattle.std.specs.Prelude.{Bool, true, false, List, [], ℕ, ◌+◌, leb, length, take, drop}

-- Whether n elements from `place` on lie in a list of that length. Nothing wraps: these are whole numbers.
unfoldable pub inside : ℕ → ℕ → ℕ → Bool
inside long place n = leb (place + n) long

-- The part, or the empty part where it does not lie in the list.
unfoldable pub part : List ℕ → ℕ → ℕ → List ℕ
part s place n = elim (inside (length s) place n) [ true ↦ take n (drop place s) | false ↦ [] ]
