-- A list with a run of elements written over it from a place on; over the element type. The laws are in proofs/Splice.antt.
use Rattle.std.specs.Prelude.{◌≡◌, ℕ, ◌+◌, List, length}
use Rattle.std.proofs.lemmas.List.Edits.{sets}

module _ {ℓ} {A : Type ℓ} where
  -- `l` with `xs` written over it from place `a` on. What would lie past the end is dropped.
  unfoldable pub splice : List A → ℕ → List A → List A
  splice l a xs = sets l a xs

  -- one append to a buffer: `xs` lies from `a` on, and `r` is the place after it
  pub record Put (l : List A) (a : ℕ) (xs l' : List A) (r : ℕ) : Type ℓ where
    pub list : l' ≡ splice l a xs
    pub next : r ≡ a + length xs
