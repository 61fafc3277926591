-- Little-endian numbers: a word is its two halves, what lies past the end counts as 0, a word that was written is read back. Each is a sum of bytes written
-- another way.
use mathlib.Core.Path.{◌≡◌, refl, sym, ap, ◌∙◌}
use mathlib.Core.List.{List, ◌++◌}
use Prim.Native.Nat.{ℕ, ◌+◌, ◌*◌, ◌≤◌, ◌<◌}
use native.Mathlib.Nat.{add-zero, add_assoc}
use native.Mathlib.Omega.{arith}
use lib.ListN.{length, get_or, length-append, get_or-append, get_or-eq_default}
use lib.Seq.{get_or-append-add}
use Rattle.words.specs.Words.{half_at, word_at, low_at, high_at, word_bytes}

pub word_halves : (s : List ℕ) (at : ℕ) → word_at s at ≡ half_at s at + 65536 * half_at s (at + 2)
unfolding word_at half_at
word_halves s at =
    let e : at + 2 + 1 ≡ at + 3 = omega arith in
    let d : get_or s (at + 2 + 1) 0 ≡ get_or s (at + 3) 0 = ap (λ (k : ℕ). get_or s k 0) e in
    omega arith

pub half_past_end : (s : List ℕ) (at : ℕ) → length s ≤ at → half_at s at ≡ 0
unfolding half_at
half_past_end s at h =
    let a : get_or s at 0 ≡ 0 = get_or-eq_default s 0 h in
    let b : get_or s (at + 1) 0 ≡ 0 = get_or-eq_default s 0 (omega arith) in
    omega arith

pub word_past_end : (s : List ℕ) (at : ℕ) → length s ≤ at → word_at s at ≡ 0
word_past_end s at h =
    let a : half_at s at ≡ 0 = half_past_end s at h in
    let b : half_at s (at + 2) ≡ 0 = half_past_end s (at + 2) (omega arith) in
    omega (arith, word_halves s at)

pub word_bounded : (s : List ℕ) (at : ℕ) → ((i : ℕ) → get_or s i 0 < 256) → word_at s at < 4294967296
unfolding word_at
word_bounded s at h = omega (arith, h at, h (at + 1), h (at + 2), h (at + 3))

-- where the bytes are bytes, the halves are those of the word
module _ (s : List ℕ) (at : ℕ) (bytes : (i : ℕ) → get_or s i 0 < 256) where
  pub half_bounded : half_at s at < 65536
  unfolding half_at
  half_bounded = omega (arith, bytes at, bytes (at + 1))

  pub low_is_half : low_at s at ≡ half_at s at
  unfolding low_at
  low_is_half = omega (arith, word_halves s at, half_bounded)

  pub high_is_half : high_at s at ≡ half_at s (at + 2)
  unfolding high_at
  high_is_half = omega (arith, word_halves s at, half_bounded)

-- two words of the same four bytes
pub word_same : (s t : List ℕ) (i j : ℕ) → ((k : ℕ) → k < 4 → get_or s (i + k) 0 ≡ get_or t (j + k) 0) → word_at s i ≡ word_at t j
unfolding word_at
word_same s t i j h =
    let first : get_or s i 0 ≡ get_or t j 0 = rw (add-zero i, add-zero j) at (h 0 (omega arith)) in
    omega (arith, first, h 1 (omega arith), h 2 (omega arith), h 3 (omega arith))

pub word_after : (before s : List ℕ) (at : ℕ) → word_at (before ++ s) (length before + at) ≡ word_at s at
word_after before s at =
    word_same (before ++ s) s (length before + at) at
    (λ k h. ap (λ (i : ℕ). get_or (before ++ s) i 0) (add_assoc (length before) at k) ∙ get_or-append-add before s (at + k) 0)

pub word_before : (s after : List ℕ) (at : ℕ) → at + 4 ≤ length s → word_at (s ++ after) at ≡ word_at s at
word_before s after at fits = word_same (s ++ after) s at at (λ k h. get_or-append s after 0 (at + k) (omega arith))

pub length_word_bytes : (n : ℕ) → length (word_bytes n) ≡ 4
unfolding word_bytes
length_word_bytes n = refl

-- a number below 2^32 is the word of its four bytes, by themselves and between others
pub word_of_bytes : (n : ℕ) → n < 4294967296 → word_at (word_bytes n) 0 ≡ n
unfolding word_at word_bytes
word_of_bytes n h = omega arith

pub word_written : (before after : List ℕ) (n : ℕ) → n < 4294967296 → word_at (before ++ word_bytes n ++ after) (length before) ≡ n
word_written before after n h =
    word_before (before ++ word_bytes n) after (length before) (omega (arith, length-append before (word_bytes n), length_word_bytes n))
    ∙ ap (λ (at : ℕ). word_at (before ++ word_bytes n) at) (sym (add-zero (length before)))
    ∙ word_after before (word_bytes n) 0
    ∙ word_of_bytes n h
