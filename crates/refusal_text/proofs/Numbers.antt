-- The text of a number: the sentence of the refusal that has it, and nothing for a number that is no refusal's.
use Rattle.std.proofs.Common.{◌≡◌, ℕ, List, [], Bor, sym, ap, ◌∙◌, arith}
use Rattle.std.specs.Prelude.{◌≢◌, Result, Ok, Err, MatchResult}
use Rattle.std.proofs.lemmas.List.{get_or_past}
use native.Mathlib.Decide.{dec_le}
use Rattle.reflection.specs.declared.refusal.Refusal.{Refusal}
use Rattle.reflection.specs.declared.refusal.Refusal.TheVariants.{ChunkTooShort, ChunkTooLong, BadVersion, BadCreator, Rd11Missing, BadRd11}
use Rattle.reflection.specs.declared.refusal.Refusal.TheVariants.{RecordPastEnd, BadInputType, BadDimension, BadBindingFlags, BadName}
use Rattle.reflection.specs.declared.refusal.Refusal.TheVariants.{DefaultPastEnd, TypeTooDeep, TypeCycle, NoRoom, NotReadable, OutputTooSmall}
use Rattle.reflection.specs.declared.refusal.Refusal.TheVariants.{NoSpelling}
use Rattle.reflection.specs.declared.refusal.UnknownRefusal.{UnknownRefusal}
use Rattle.reflection.specs.Refusals.{refusal_number, FromNumber}
use Rattle.refusal_text.specs.Sentences.{sentences, sentence}

pub no_sentence : (n : ℕ) → ((e : Refusal) → refusal_number e ≢ n) → sentence n ≡ []
unfolding sentence
no_sentence n other =
    elim (dec_le 19 n) [
      | yes beyond ↦ get_or_past sentences n [] beyond
      | no within ↦
          let zero : n ≡ 0 = omega (
            arith,
            other ChunkTooShort,
            other ChunkTooLong,
            other BadVersion,
            other BadCreator,
            other Rd11Missing,
            other BadRd11,
            other RecordPastEnd,
            other BadInputType,
            other BadDimension,
            other BadBindingFlags,
            other BadName,
            other DefaultPastEnd,
            other TypeTooDeep,
            other TypeCycle,
            other NoRoom,
            other NotReadable,
            other OutputTooSmall,
            other NoSpelling,
          ) in
          rw zero
    ]

-- what `map_or` answers: what the refusal says, or the empty text
pub sentence_of_number : (n : ℕ) (text empty : Bor (List ℕ)) (r : Result Refusal UnknownRefusal) → FromNumber n r → empty.now ≡ []
    → MatchResult r (λ e. text.now ≡ sentence (refusal_number e)) (λ u. text ≡ empty) → text.now ≡ sentence n
sentence_of_number n text empty (Ok e) is none said = said ∙ ap sentence is
sentence_of_number n text empty (Err u) is none said = ap (λ (b : Bor (List ℕ)). b.now) said ∙ none ∙ sym (no_sentence n is.1)
