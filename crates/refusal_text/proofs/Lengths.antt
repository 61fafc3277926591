-- No sentence has more than 128 bytes: those of the list by a test of each, the empty one beyond it anyhow.
use Rattle.std.proofs.Common.{◌≡◌, ℕ, ◌≤◌, List, [], Bool, true, false, length, get_or, arith}
use Rattle.std.specs.Prelude.{leb}
use Rattle.std.proofs.lemmas.List.{get_or_past}
use Rattle.std.proofs.lemmas.List.Folds.{list_all_at}
use native.Mathlib.Decide.{dec_le}
use borrow.Author.Tests.{lt-leb}
use Rattle.refusal_text.specs.Sentences.{sentences, sentence}

abbrev short : List ℕ → Bool
short text = leb (length text) 128

pub sentence_at_most_128 : (n : ℕ) → length (sentence n) ≤ 128
unfolding sentence
sentence_at_most_128 n =
    elim (dec_le 19 n) [
      | yes beyond ↦ rw (get_or_past sentences n [] beyond) (omega arith)
      | no within ↦ elim (dec_le (length (get_or sentences n [])) 128) [
        | yes fits ↦ fits
        | no over ↦
            let long = lt-leb (length (get_or sentences n [])) 128 (omega arith) in
            let not_all : true ≡ false = list_all_at short sentences n [] (omega arith) long in
            cc
      ]
    ]
