-- The bytes of a word, and padding: a part of three bytes of 0xAB.
use mathlib.Core.Path.{◌≡◌, refl}
use mathlib.Core.List.{List, [], ◌∷◌}
use Prim.Native.Nat.{ℕ, zero, suc, ◌+◌, ◌-◌, ◌/◌, ◌%◌, ◌≤◌}
use native.Mathlib.Omega.{arith}
use lib.ListN.{take, replicate, length-replicate}
use Rattle.std.specs.Int.{to_le_bytes, w32}
use Rattle.words.specs.Words.{word_bytes}
use Rattle.words.specs.Splice.{Put, splice}
use Rattle.words.proofs.Words.{length_word_bytes}
use Rattle.write_spec.specs.Step.{padding_at}

-- the bytes of a word, as the library writes them
pub le_bytes_word : (n : ℕ) → to_le_bytes w32 n ≡ word_bytes n
unfolding word_bytes
le_bytes_word n =
    let third : n / 65536 % 256 ≡ n / 256 / 256 % 256 = omega arith in
    let fourth : n / 16777216 % 256 ≡ n / 256 / 256 / 256 % 256 = omega arith in
    λ i. n % 256 ∷ n / 256 % 256 ∷ third i ∷ fourth i ∷ []

pub word_put : {l l' : List ℕ} {at : ℕ} (word : ℕ) → l' ≡ splice l at (word_bytes word) → Put l at (word_bytes word) l' (at + 4)
word_put word e = record { list = e; next = omega (arith, length_word_bytes word) }

-- the first n of three
abbrev three : List ℕ
three = 0xab ∷ 0xab ∷ 0xab ∷ []

three_first : (n : ℕ) → n ≤ 3 → take n three ≡ replicate n 0xab
three_first zero h = refl
three_first (suc zero) h = refl
three_first (suc (suc zero)) h = refl
three_first (suc (suc (suc zero))) h = refl
three_first (suc (suc (suc (suc n)))) h = absurd (omega (arith, h))

pub padding_short : (at : ℕ) → padding_at at ≤ 3
unfolding padding_at
padding_short at = omega arith

-- the cursor after padding
pub padded_near : {out out' : List ℕ} {at to : ℕ} → Put out at (replicate (padding_at at) 0xab) out' to → to ≤ at + 3
padded_near {at = at} padded = omega (arith, padded.next, length-replicate {A = ℕ} (padding_at at) 0xab, padding_short at)

pub padding_bytes : (at : ℕ) → take (at + (4 - at % 4) % 4 - at) three ≡ replicate (padding_at at) 0xab
unfolding padding_at
padding_bytes at =
    let count : at + (4 - at % 4) % 4 - at ≡ (4 - at % 4) % 4 = omega arith in
    rw count (three_first ((4 - at % 4) % 4) (omega arith))
