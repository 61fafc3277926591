-- The name of a type, case by case: only major 5 has one, and offset 0 means empty.
use Rattle.text.specs.declared.Span.{Span}
use Rattle.std.specs.Prelude.{Option, None, Some, ok_or}
use Rattle.std.specs.Option.{is_some}
use mathlib.Core.Path.{◌≡◌, refl}
use mathlib.Core.Bool.{Bool, true, false}
use mathlib.Core.List.{List}
use Prim.Native.Nat.{ℕ, zero, suc, ◌+◌, ◌≤◌}
use native.Mathlib.Omega.{arith}
use Rattle.words.specs.Words.{word_at, word_if}
use Rattle.text.specs.Strings.{span}
use Rattle.text.specs.Strings.{cstring_at, FoundWithin}
use Rattle.reflection.specs.declared.refusal.Refusal.{Refusal}
use Rattle.read_spec.specs.Read.{cstring_or_empty, type_name_at}
use Rattle.read_types.specs.Found.{text_in, found_or}

module _ (s : List ℕ) where
  pub empty_name : (sm5 : Bool) (at : ℕ) → word_if sm5 s (at + 32) ≡ 0 → type_name_at s sm5 at ≡ Some (span 0 0)
  unfolding type_name_at cstring_or_empty word_if
  empty_name true at none = rw none
  empty_name false at none = refl

  pub some_name : (sm5 : Bool) (at : ℕ) → (word_if sm5 s (at + 32) ≡ 0 → ⊥) → type_name_at s sm5 at ≡ cstring_at s (word_if sm5 s (at + 32))
  unfolding type_name_at cstring_or_empty word_if
  some_name true at some = go (word_at s (at + 32)) some
    where
      go : (k : ℕ) → (k ≡ 0 → ⊥) → cstring_or_empty s k ≡ cstring_at s k
      go zero h = absurd (h refl)
      go (suc k) h = refl
  some_name false at some = absurd (some refl)

-- What the code does with a text that may not be there.
pub or_refused : (found : Option Span) (e : Refusal) → ok_or (text_in found) e ≡ found_or e found
or_refused (Some w) e = refl
or_refused None e = refl

pub still_some : (found : Option Span) → is_some (text_in found) ≡ is_some found
still_some (Some w) = refl
still_some None = refl

-- What lies within n bytes lies within more.
pub within_more : {n m : ℕ} (found : Option Span) → FoundWithin n found → n ≤ m → FoundWithin m found
within_more (Some w) within h = omega arith
within_more None within h = tt
