-- Reading n records of one stride, as progress: nothing where none is left, else the first record decides whether and how the others are read.
-- One law over the record and its stride serves bindings, variables and buffers.
use Rattle.reflection.specs.Outcome.{Outcome}
use Rattle.reflection.specs.declared.refusal.Refusal.{Refusal}
use Rattle.std.specs.Prelude.{Ok, Err}
use mathlib.Core.Path.{◌≡◌, refl, ap, ◌∙◌}
use mathlib.Core.List.{List, ◌∷◌}
use Prim.Native.Nat.{ℕ, zero, suc, ◌+◌, ◌-◌, ◌≤◌, ◌<◌}
use native.Mathlib.Omega.{arith}
use Rattle.read_spec.specs.Step.{Room, ReadStep, and_then, ◌>>=◌, return}
use Rattle.read_spec.specs.Read.{read_many}
use Rattle.read_spec.proofs.Steps.{bind_is}
use Rattle.read_types.specs.Progress.{Progress, stopped, reached, progress, onward, append_all, many_progress}

module _ {A S : Type 0} (append : A → S → S) (read : ℕ → ReadStep A) (stride : ℕ) where
  -- what reading n records from an offset on appends to w
  abbrev many : ℕ → ℕ → S → Room → Progress S
  many = many_progress append read stride

  first_appended : (x : A) (xs : Outcome (List A × Room)) (w : S)
      → progress (append_all append) (and_then xs (λ ys. return (x ∷ ys))) w ≡ progress (append_all append) xs (append x w)
  unfolding return append_all
  first_appended x (Ok z) w = refl
  first_appended x (Err e) w = refl

  pub many_none : (left at : ℕ) (w : S) (r : Room) → left ≤ 0 → many left at w r ≡ reached w r
  unfolding read_many append_all return
  many_none zero at w r none = refl
  many_none (suc left) at w r none = absurd (omega arith)

  pub many_on : (left at : ℕ) (w : S) (r : Room) → 0 < left → many left at w r ≡ onward (many (left - 1) (at + stride)) (progress append (read at r) w)
  unfolding read_many
  many_on zero at w r some = absurd (omega arith)
  many_on (suc left) at w r some =
      ap (λ (y : Outcome (List A × Room)). progress (append_all append) y w) (bind_is _ _ r)
      ∙ others (read at r)
      ∙ ap (λ (n : ℕ). onward (many n (at + stride)) (progress append (read at r) w)) (let d : left ≡ suc left - 1 = omega arith in d)
    where
      others : (y : Outcome (A × Room)) → progress (append_all append) (and_then y (λ x. read_many read stride left (at + stride) >>= λ xs. return (x ∷ xs))) w
          ≡ onward (many left (at + stride)) (progress append y w)
      others (Ok z) =
          ap (λ (y : Outcome (List A × Room)). progress (append_all append) y w) (bind_is _ _ z.1)
          ∙ first_appended z.0 (read_many read stride left (at + stride) z.1) w
      others (Err e) = refl

  -- the first record is Err, or it is appended and the others follow
  module _ (left at : ℕ) (w : S) (r : Room) (some : 0 < left) where
    pub many_stopped : {e : Refusal} → progress append (read at r) w ≡ stopped e → many left at w r ≡ stopped e
    many_stopped h = many_on left at w r some ∙ ap (onward (many (left - 1) (at + stride))) h

    pub many_further : {w₁ : S} {r₁ : Room} → progress append (read at r) w ≡ reached w₁ r₁ → many left at w r ≡ many (left - 1) (at + stride) w₁ r₁
    many_further h = many_on left at w r some ∙ ap (onward (many (left - 1) (at + stride))) h
