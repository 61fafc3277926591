-- A step that is done for each of a list: what was done of it so far. Whatever runs it for those that are left, from where it stands, has run it for all:
-- so each turn of a loop shortens what is left, and where nothing is left all were run.
use mathlib.Core.Path.{◌≡◌, refl, sym, subst}
use mathlib.Core.List.{List, [], ◌∷◌, ◌++◌, append-nil, append_assoc}
use Prim.Native.Nat.{ℕ}
use Rattle.reflection.specs.declared.Text.{Text}
use Rattle.write_spec.specs.Step.{Pools, WriteStep, ◌>>=◌, return}
use Rattle.write_texts.specs.Simulates.{Simulates}
use Rattle.write_texts.proofs.Runs.{ran_bind, ran_return, ran_like, ran_step}

-- `many` does `one` for each in turn and hands back the results.
pub record Each {X Y : Type 0} (many : List X → WriteStep Text Text (List Y)) (one : X → WriteStep Text Text Y) : Type 0 where
  pub of_none : many [] ≡ return []
  pub of_more : (x : X) (xs : List X) → many (x ∷ xs) ≡ (one x >>= λ y. many xs >>= λ ys. return (y ∷ ys))

module _ (chunk edits : List ℕ) {X Y : Type 0} (many : List X → WriteStep Text Text (List Y)) where
  pub record SoFar (all : List X) (at₀ : ℕ) (ps₀ : Pools Text Text) (out₀ : List ℕ) (left : List X) (at : ℕ) (ps : Pools Text Text) (out : List ℕ)
      (ys : List Y) : Type 0 where
    pub rest : {to : ℕ} {ps' : Pools Text Text} {out' : List ℕ} {zs : List Y} → Simulates chunk edits (many left) at ps out out' zs to ps'
        → Simulates chunk edits (many all) at₀ ps₀ out₀ out' (ys ++ zs) to ps'

  pub so_far_none : (all : List X) (at : ℕ) (ps : Pools Text Text) (out : List ℕ) → SoFar all at ps out all at ps out []
  so_far_none all at ps out = record { rest = λ ran. ran }

  -- The same, said of what is equal.
  pub so_far_like : {all left left' : List X} {at₀ at : ℕ} {ps₀ ps ps' : Pools Text Text} {out₀ out : List ℕ} {ys ys' : List Y} → left ≡ left' → ps
      ≡ ps' → ys ≡ ys'
      → SoFar all at₀ ps₀ out₀ left at ps out ys → SoFar all at₀ ps₀ out₀ left' at ps' out ys'
  so_far_like {all} {left} {left'} {at₀} {at} {ps₀} {ps} {ps'} {out₀} {out} {ys} {ys'} l p y so_far =
      subst (λ x. SoFar all at₀ ps₀ out₀ left' at ps' out x) y (subst (λ x. SoFar all at₀ ps₀ out₀ left' at x out ys) p
      (subst (λ x. SoFar all at₀ ps₀ out₀ x at ps out ys) l so_far))

  module _ {one : X → WriteStep Text Text Y} (each : Each many one) where
    pub so_far_more : {all left : List X} {x : X} {at₀ at at₁ : ℕ} {ps₀ ps ps₁ : Pools Text Text} {out₀ out out₁ : List ℕ} {ys : List Y} {y : Y}
        → SoFar all at₀ ps₀ out₀ (x ∷ left) at ps out ys → Simulates chunk edits (one x) at ps out out₁ y at₁ ps₁
        → SoFar all at₀ ps₀ out₀ left at₁ ps₁ out₁ (ys ++ (y ∷ []))
    so_far_more {left = left} {x} {ys = ys} {y} so_far ran-one = record {
      rest = λ {zs = zs} ran-left.
          ran_like chunk edits refl refl (sym (append_assoc ys (y ∷ []) zs))
          (so_far.rest (ran_step chunk edits (sym (each.of_more x left))
          (ran_bind chunk edits _ ran-one (ran_bind chunk edits _ ran-left (ran_return chunk edits _ _ _ _)))));
    }

    pub so_far_all : {all : List X} {at₀ at : ℕ} {ps₀ ps : Pools Text Text} {out₀ out : List ℕ} {ys : List Y}
        → SoFar all at₀ ps₀ out₀ [] at ps out ys → Simulates chunk edits (many all) at₀ ps₀ out₀ out ys at ps
    so_far_all {at = at} {ps = ps} {out = out} {ys = ys} so_far =
        ran_like chunk edits refl refl (append-nil ys) (so_far.rest (ran_step chunk edits (sym each.of_none) (ran_return chunk edits [] at ps out)))
