-- The bytes of words: how many they are, and those of words that follow others.
use mathlib.Core.Path.{◌≡◌, refl, ap, sym, ◌∙◌}
use mathlib.Core.List.{List, [], ◌∷◌, ◌++◌, append_assoc}
use Prim.Native.Nat.{ℕ, ◌+◌, ◌*◌, ◌<◌}
use native.Mathlib.Omega.{arith}
use native.Mathlib.Numerals.{add-one}
use lib.ListN.{length, get_or, take, length-append}
use lib.Seq.{take-suc}
use Rattle.words.specs.Words.{word_bytes}
use Rattle.words.proofs.Words.{length_word_bytes}
use Rattle.write_bytes.specs.Bytes.{joined_bytes}

pub length_joined : (ws : List ℕ) → length (joined_bytes ws) ≡ 4 * length ws
unfolding joined_bytes
length_joined [] = refl
length_joined (w ∷ ws) = omega (arith, length-append (word_bytes w) (joined_bytes ws), length_word_bytes w, length_joined ws)

pub joined_append : (ws vs : List ℕ) → joined_bytes (ws ++ vs) ≡ joined_bytes ws ++ joined_bytes vs
unfolding joined_bytes
joined_append [] vs = refl
joined_append (w ∷ ws) vs = ap (λ (l : List ℕ). word_bytes w ++ l) (joined_append ws vs) ∙ sym (append_assoc (word_bytes w) (joined_bytes ws) (joined_bytes vs))

pub joined_one : (w : ℕ) → joined_bytes (w ∷ []) ≡ word_bytes w
unfolding joined_bytes word_bytes
joined_one w = refl

pub joined_cons : (w : ℕ) (ws : List ℕ) → joined_bytes (w ∷ ws) ≡ word_bytes w ++ joined_bytes ws
unfolding joined_bytes
joined_cons w ws = refl

-- one word more: a turn of a loop that writes them
pub joined_take_more : (ws : List ℕ) (i : ℕ) → i < length ws → joined_bytes (take (i + 1) ws) ≡ joined_bytes (take i ws) ++ word_bytes (get_or ws i 0)
joined_take_more ws i h =
    ap joined_bytes (ap (λ (k : ℕ). take k ws) (add-one i) ∙ take-suc ws i 0 h)
    ∙ joined_append (take i ws) (get_or ws i 0 ∷ [])
    ∙ ap (λ (l : List ℕ). joined_bytes (take i ws) ++ l) (joined_one (get_or ws i 0))
