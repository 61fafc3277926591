-- The hash of a text's bytes, word after word as a loop makes it, and the words of four bytes that the library cuts a text into.
use mathlib.Core.Path.{◌≡◌, refl, ap, sym, ◌∙◌}
use mathlib.Core.List.{List, []}
use Prim.Native.Nat.{ℕ, zero, suc, ◌+◌, ◌*◌, ◌/◌, ◌%◌, ◌<◌}
use native.Mathlib.Nat.{add-zero}
use native.Mathlib.Numerals.{add-one}
use native.Mathlib.Omega.{arith}
use lib.ListN.{length, get_or, take, drop}
use Rattle.std.proofs.lemmas.List.{get_or-take, get_or-drop, drop-drop}
use Rattle.std.specs.Int.{from_le_bytes, w32}
use Rattle.std.specs.Simd.{first_chunks}
use Rattle.words.specs.Words.{word_at}
use Rattle.write_pool.specs.Pool.{bucket_count, hash_of, bucket_of}

-- the word that four bytes are, and those that begin at the front of what is left
word_of_four : (bytes : List ℕ) → from_le_bytes w32 (take 4 bytes) ≡ word_at bytes 0
unfolding word_at
word_of_four bytes =
    let kept : (i : ℕ) → i < 4 → get_or (take 4 bytes) i 0 ≡ get_or bytes i 0 = λ i h. get_or-take 4 bytes i 0 h in
    omega (arith, kept 0 (omega arith), kept 1 (omega arith), kept 2 (omega arith), kept 3 (omega arith))

pub word_dropped : (bytes : List ℕ) (k : ℕ) → word_at (drop k bytes) 0 ≡ word_at bytes k
unfolding word_at
word_dropped bytes k =
    let first : get_or (drop k bytes) 0 0 ≡ get_or bytes k 0 = get_or-drop k bytes 0 0 ∙ ap (λ (j : ℕ). get_or bytes j 0) (add-zero k) in
    omega (arith, first, get_or-drop k bytes 1 0, get_or-drop k bytes 2 0, get_or-drop k bytes 3 0)

chunk_is : (n i : ℕ) (bytes : List ℕ) → i < n → get_or (first_chunks 4 n bytes) i [] ≡ take 4 (drop (i * 4) bytes)
chunk_is zero i bytes h = absurd (omega (arith, h))
chunk_is (suc n) zero bytes h = refl
chunk_is (suc n) (suc i) bytes h =
    let same_place : 4 + i * 4 ≡ suc i * 4 = omega arith in
    chunk_is n i (drop 4 bytes) (omega arith)
    ∙ ap (take 4) (drop-drop (i * 4) 4 bytes ∙ ap (λ (k : ℕ). drop k bytes) same_place)

pub chunk_word : (n i : ℕ) (bytes : List ℕ) → i < n → from_le_bytes w32 (get_or (first_chunks 4 n bytes) i []) ≡ word_at bytes (i * 4)
chunk_word n i bytes h =
    ap (from_le_bytes w32) (chunk_is n i bytes h) ∙ word_of_four (drop (i * 4) bytes) ∙ word_dropped bytes (i * 4)

-- `hash` is that of the first n words
module _ (bytes : List ℕ) (n : ℕ) {hash : ℕ} (so_far : hash ≡ hash_of bytes n) where
  pub hash_with_word : {word more : ℕ} → word ≡ word_at bytes (n * 4) → more ≡ (hash * 31 + word) % 4294967296 → more ≡ hash_of bytes (n + 1)
  unfolding hash_of
  hash_with_word is-word is-more =
      is-more ∙ (λ k. (so_far k * 31 + is-word k) % 4294967296) ∙ ap (hash_of bytes) (sym (add-one n))

  pub bucket_at_end : n ≡ (length bytes + 3) / 4 → hash % 65521 % bucket_count ≡ bucket_of bytes
  unfolding bucket_of
  bucket_at_end e = ap (λ (h : ℕ). h % 65521 % bucket_count) (so_far ∙ ap (hash_of bytes) e)

pub bucket_is_below_count : (bytes : List ℕ) → bucket_of bytes < bucket_count
unfolding bucket_of
bucket_is_below_count bytes = omega arith
