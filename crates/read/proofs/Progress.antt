-- From the words that a walk appended back to what it read: a walk that stopped was refused, and one that came through read something. Each is one case of
-- `progress`.
use Rattle.reflection.specs.Outcome.{Outcome}
use Rattle.reflection.specs.declared.refusal.Refusal.{Refusal}
use Rattle.std.specs.Prelude.{Ok, Err}
use mathlib.Core.Path.{◌≡◌, ap}
use Prim.Native.Nat.{ℕ}
use native.Mathlib.Omega.{arith}
use Rattle.read_spec.specs.Step.{Room}
use Rattle.read_types.specs.Progress.{stopped, reached, progress}

-- What was read, whose words after s are w, with the room r left.
pub record WasRead {A S : Type 0} (append : A → S → S) (x : Outcome (A × Room)) (s w : S) (r : Room) : Type 0 where
  pub value : A
  pub is : x ≡ Ok (value, r)
  pub words : append value s ≡ w

module _ {A S : Type 0} (append : A → S → S) (s : S) where
  pub stopped_refused : (x : Outcome (A × Room)) (e : Refusal) → progress append x s ≡ stopped e → x ≡ Err e
  stopped_refused (Ok z) e h = cc
  stopped_refused (Err d) e h = cc

  pub reached_read : (x : Outcome (A × Room)) (w : S) (r : Room) → progress append x s ≡ reached w r → WasRead append x s w r
  reached_read (Ok z) w r h =
      let room-left : z.1 ≡ r = cc in
      record { value = z.0; is = ap (λ (y : Room). Ok (z.0, y)) room-left; words = cc }
  reached_read (Err d) w r h = absurd (let apart : ◌≡◌ {A = ℕ} 0 1 = cc in omega arith)
