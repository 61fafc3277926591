-- Vocabulary of internal contracts: no contract of an exported function and no demand cites it.
-- How far a walk came, in words of the tables: what the contracts of the walks say. Each is made from the definition of reading and a function
-- that appends what was read; there is no second definition of the walk.
use Rattle.reflection.specs.Outcome.{Outcome}
use Rattle.reflection.specs.declared.refusal.Refusal.{Refusal}
use Rattle.std.specs.Prelude.{List, [], ◌∷◌, ℕ, Ok, Err}
use Rattle.read_spec.specs.Step.{Room, ReadStep}
use Rattle.read_spec.specs.Read.{read_many}

-- A refusal, or all words so far and the room left.
pub data Progress (S : Type 0) : Type 0 where
  stopped : Refusal → Progress S
  reached : S → Room → Progress S

-- What a reading appends to the words s.
abbrev pub progress : {A S : Type 0} → (A → S → S) → Outcome (A × Room) → S → Progress S
progress append (Ok p) s = reached (append p.0 s) p.1
progress append (Err e) s = stopped e

abbrev pub onward : {S S₁ : Type 0} → (S → Room → Progress S₁) → Progress S → Progress S₁
onward f (stopped e) = stopped e
onward f (reached s room) = f s room

-- One after the other.
unfoldable pub append_all : {A S : Type 0} → (A → S → S) → List A → S → S
append_all append [] s = s
append_all append (x ∷ xs) s = append_all append xs (append x s)

-- What reading n records of one stride, from an offset on, appends to the words s.
abbrev pub many_progress : {A S : Type 0} → (A → S → S) → (ℕ → ReadStep A) → ℕ → ℕ → ℕ → S → Room → Progress S
many_progress append read stride n at s r = progress (append_all append) (read_many read stride n at r) s
