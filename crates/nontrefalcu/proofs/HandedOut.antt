-- The number and the words that are handed out are those of the outcome: a value leaves 0 and its words on cleared ones, a refusal its number and
-- the cleared words.
use Rattle.reflection.specs.Outcome.{Outcome}
use Rattle.reflection.specs.Refusals.{refusal_number}
use Rattle.reflection.specs.declared.refusal.Refusal.{Refusal}
use Rattle.std.specs.Prelude.{Ok, Err, MatchResult, IsOkAnd}
use mathlib.Core.Path.{◌≡◌, refl, ap, ◌∙◌}
use mathlib.Core.List.{List}
use Prim.Native.Nat.{ℕ}
use lib.ListN.{replicate}
use Rattle.words.specs.Splice.{splice}
use Rattle.reflection.specs.declared.Text.{Text}
use Rattle.reflection.specs.Reflection.{ResourceDef}
use Rattle.read.specs.Parsed.{parsed_of}
use Rattle.nontrefalcu.specs.Exports.{number_of, result_table, header_words_in_table, header_table}

module _ {A : Type 0} {out : Outcome A} where
  pub value_number : {x : A} → out ≡ Ok x → 0 ≡ number_of out
  unfolding number_of
  value_number value = rw value

  pub refused_number : {e : Refusal} → out ≡ Err e → refusal_number e ≡ number_of out
  unfolding number_of
  refused_number refusal = rw refusal

  module _ (words : A → List ℕ) (n : ℕ) {cleared : List ℕ} (zeros : cleared ≡ replicate n 0) where
    pub value_table : {x : A} {put result : List ℕ} → out ≡ Ok x → put ≡ words x → result ≡ splice cleared 0 put → result ≡ result_table words out n
    unfolding result_table
    value_table value same written = rw value (written ∙ λ i. splice (zeros i) 0 (same i))

    pub refused_table : {e : Refusal} → out ≡ Err e → cleared ≡ result_table words out n
    unfolding result_table
    refused_table refusal = rw refusal zeros

-- an answer whose value was made into words
module _ {A : Type 0} (words : A → List ℕ) where
  abbrev pub Mapped : Outcome A → Outcome (List ℕ) → Type 0
  Mapped out r = MatchResult out (λ x. IsOkAnd r (λ row. row ≡ words x)) (λ e. r ≡ Err e)

  pub mapped_number : (out : Outcome A) (r : Outcome (List ℕ)) → Mapped out r → number_of r ≡ number_of out
  unfolding number_of
  mapped_number (Ok x) (Ok row) is = refl
  mapped_number (Ok x) (Err e) is = absurd is
  mapped_number (Err d) r is = rw is

  pub mapped_table : (out : Outcome A) (r : Outcome (List ℕ)) (n : ℕ) → Mapped out r → result_table (λ w. w) r n ≡ result_table words out n
  unfolding result_table
  mapped_table (Ok x) (Ok row) n is = ap (splice (replicate n 0) 0) is
  mapped_table (Ok x) (Err e) n is = absurd is
  mapped_table (Err d) r n is = rw is

-- the reader's answer is its outcome's
pub parsed_number : (out : Outcome (ResourceDef Text Text)) → number_of (parsed_of out) ≡ number_of out
unfolding parsed_of number_of
parsed_number (Ok def) = refl
parsed_number (Err e) = refl

pub parsed_table : (out : Outcome (ResourceDef Text Text)) (n : ℕ) → result_table header_words_in_table (parsed_of out) n ≡ header_table out n
unfolding parsed_of result_table
parsed_table (Ok def) n = refl
parsed_table (Err e) n = refl
