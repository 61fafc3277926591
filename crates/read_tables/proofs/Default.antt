-- A variable's default, by the offset that its record gives: the cases of `default_at`.
use Rattle.std.specs.Prelude.{None, Some}
use Rattle.std.specs.Bool.{then_some}
use mathlib.Core.Path.{◌≡◌, refl}
use mathlib.Core.Bool.{Bool, true, false}
use mathlib.Core.List.{List}
use Prim.Native.Nat.{ℕ, zero, suc}
use lib.ListN.{length}
use Rattle.words.specs.Parts.{inside}
use Rattle.text.specs.Strings.{span}
use Rattle.reflection.specs.Texts.{in_chunk}
use Rattle.read_spec.specs.Read.{default_at}
use Rattle.read_types.specs.Found.{text_in}

module _ (s : List ℕ) where
  pub default_empty : (offset size : ℕ) → offset ≡ 0 → default_at s offset size ≡ Some (span 0 0)
  unfolding default_at
  default_empty offset size empty = rw empty

  pub default_within : (offset size : ℕ) → (offset ≡ 0 → ⊥)
      → text_in (default_at s offset size) ≡ then_some (inside (length s) offset size) (in_chunk offset size)
  unfolding default_at
  default_within zero size some = absurd (some refl)
  default_within (suc offset) size some = go (inside (length s) (suc offset) size)
    where
      go : (fits : Bool) → text_in (elim fits [ true ↦ Some (span (suc offset) size) | false ↦ None ]) ≡ then_some fits (in_chunk (suc offset) size)
      go true = refl
      go false = refl
