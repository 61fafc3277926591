-- A binding, buffer, variable or type node that is written as record i is read back, and any other is as before.
-- A record is read off the words below its width alone, so the law over the width (Records) serves all four.
use mathlib.Core.Path.{◌≡◌, refl, ap}
use mathlib.Core.Bool.{Bool, true, false}
use mathlib.Core.List.{List}
use Prim.Native.Nat.{ℕ, ◌/◌, ◌<◌}
use borrow.Author.Tests.{ltb-true}
use lib.Dec.{ltb}
use lib.ListN.{length, get_or}
use Rattle.reflection.specs.declared.ResourceBinding.{ResourceBinding}
use Rattle.reflection.specs.declared.CBufferDef.{CBufferDef}
use Rattle.reflection.specs.declared.CBufferVariable.{CBufferVariable}
use Rattle.reflection.specs.declared.TypeDesc.{TypeDesc}
use Rattle.tables.specs.Records.{put_record, record_word, within}
use Rattle.tables.specs.Records.{binding_width, binding_words_in_table, binding_of, binding_at}
use Rattle.tables.specs.Records.{buffer_width, buffer_words_in_table, buffer_of, buffer_at}
use Rattle.tables.specs.Records.{variable_width, variable_words_in_table, variable_of, variable_at}
use Rattle.tables.specs.Records.{type_width, type_words_in_table, type_of, type_at}
use Rattle.tables.proofs.Records.{record_put, record_put_other}

-- words that agree below the width give the same record
pub same_words : (width : ℕ) (f g : ℕ → ℕ) → ((k : ℕ) → k < width → f k ≡ g k) → within width f ≡ within width g
same_words width f g e i k = agree (ltb k width) (λ t. e k (ltb-true k width t)) i
  where
    agree : (b : Bool) → (b ≡ true → f k ≡ g k) → ◌≡◌ {A = ℕ} (elim b [ true ↦ f k | false ↦ 0 ]) (elim b [ true ↦ g k | false ↦ 0 ])
    agree true h = h refl
    agree false h = refl

module _ {A : Type 0} (width : ℕ) (words : A → List ℕ) (whole : (x : A) → length (words x) ≡ width) (t : List ℕ) (i : ℕ) (x : A) where
  pub words_put : i < length t / width → within width (record_word width (put_record width t i (words x)) i) ≡ within width (λ k. get_or (words x) k 0)
  words_put inside =
      same_words width (record_word width (put_record width t i (words x)) i) (λ k. get_or (words x) k 0)
      (λ k h. record_put width t i (words x) (whole x) k h inside)

  pub words_put_other : (j : ℕ) → (j ≡ i → ⊥) → within width (record_word width (put_record width t i (words x)) j) ≡ within width (record_word width t j)
  words_put_other j other =
      same_words width (record_word width (put_record width t i (words x)) j) (record_word width t j)
      (λ k h. record_put_other width t i (words x) (whole x) j k h other)

module _ (t : List ℕ) (i : ℕ) (x : ResourceBinding) where
  pub binding_put : i < length t / binding_width → binding_at (put_record binding_width t i (binding_words_in_table x)) i ≡ x
  unfolding binding_at binding_words_in_table
  binding_put inside = ap binding_of (words_put binding_width binding_words_in_table (λ y. refl) t i x inside)

  pub binding_put_other : (j : ℕ) → (j ≡ i → ⊥) → binding_at (put_record binding_width t i (binding_words_in_table x)) j ≡ binding_at t j
  unfolding binding_at binding_words_in_table
  binding_put_other j other = ap binding_of (words_put_other binding_width binding_words_in_table (λ y. refl) t i x j other)

module _ (t : List ℕ) (i : ℕ) (x : CBufferDef) where
  pub buffer_put : i < length t / buffer_width → buffer_at (put_record buffer_width t i (buffer_words_in_table x)) i ≡ x
  unfolding buffer_at buffer_words_in_table
  buffer_put inside = ap buffer_of (words_put buffer_width buffer_words_in_table (λ y. refl) t i x inside)

  pub buffer_put_other : (j : ℕ) → (j ≡ i → ⊥) → buffer_at (put_record buffer_width t i (buffer_words_in_table x)) j ≡ buffer_at t j
  unfolding buffer_at buffer_words_in_table
  buffer_put_other j other = ap buffer_of (words_put_other buffer_width buffer_words_in_table (λ y. refl) t i x j other)

module _ (t : List ℕ) (i : ℕ) (x : CBufferVariable) where
  pub variable_put : i < length t / variable_width → variable_at (put_record variable_width t i (variable_words_in_table x)) i ≡ x
  unfolding variable_at variable_words_in_table
  variable_put inside = ap variable_of (words_put variable_width variable_words_in_table (λ y. refl) t i x inside)

  pub variable_put_other : (j : ℕ) → (j ≡ i → ⊥) → variable_at (put_record variable_width t i (variable_words_in_table x)) j ≡ variable_at t j
  unfolding variable_at variable_words_in_table
  variable_put_other j other = ap variable_of (words_put_other variable_width variable_words_in_table (λ y. refl) t i x j other)

module _ (t : List ℕ) (i : ℕ) (x : TypeDesc) where
  pub type_put : i < length t / type_width → type_at (put_record type_width t i (type_words_in_table x)) i ≡ x
  unfolding type_at type_words_in_table
  type_put inside = ap type_of (words_put type_width type_words_in_table (λ y. refl) t i x inside)

  pub type_put_other : (j : ℕ) → (j ≡ i → ⊥) → type_at (put_record type_width t i (type_words_in_table x)) j ≡ type_at t j
  unfolding type_at type_words_in_table
  type_put_other j other = ap type_of (words_put_other type_width type_words_in_table (λ y. refl) t i x j other)
