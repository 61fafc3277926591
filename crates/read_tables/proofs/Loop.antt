-- The loop of a walk over n records of one stride: what is left to read decides the outcome. One law over the record and its stride serves
-- bindings, variables and buffers: each way out of a loop, and each turn, follows from what reading one record appends.
use Rattle.reflection.specs.declared.refusal.Refusal.{Refusal}
use Rattle.std.specs.Prelude.{Ok, Err}
use mathlib.Core.Path.{◌≡◌, sym, ◌∙◌}
use Prim.Native.Nat.{ℕ, ◌+◌, ◌-◌, ◌≤◌, ◌<◌}
use Rattle.read_spec.specs.declared.Counts.{Counts}
use Rattle.read_spec.specs.Step.{ReadStep}
use Rattle.read_types.specs.Progress.{Progress, stopped, reached, progress, many_progress}
use Rattle.read_types.specs.Walked.{room_left, AllGrew, Walked}
use Rattle.read_tables.proofs.Many.{many_none, many_stopped, many_further}

-- The loop's invariant: from n records the tables came to `next`, and `left` are left to read, from `at` on. `before` and `now` say what so many records of the
-- tables hold, at entry and now.
pub record Going {A S : Type 0} (append : A → S → S) (read : ℕ → ReadStep A) (stride first count : ℕ) (capacity most n : Counts)
    (before now : Counts → S) (next : Counts) (at left : ℕ) : Type 0 where
  pub same : many_progress append read stride count first (before n) (room_left capacity n)
      ≡ many_progress append read stride left at (now next) (room_left capacity next)
  pub grew : AllGrew most n next

module _ {A S : Type 0} {append : A → S → S} {read : ℕ → ReadStep A} {stride first count : ℕ} {capacity most n : Counts} {before now : Counts → S}
    {next : Counts} {at left : ℕ}
    (so_far : Going append read stride first count capacity most n before now next at left) where
  pub ends : left ≤ 0 → Walked (many_progress append read stride count first) capacity most n before now (Ok next)
  ends none = record { outcome = so_far.same ∙ many_none append read stride left at (now next) (room_left capacity next) none; grew = so_far.grew }

  module _ (some : 0 < left) where
    abbrev one : Progress S
    one = progress append (read at (room_left capacity next)) (now next)

    pub stops : {e : Refusal} {after : Counts → S} → one ≡ stopped e
        → Walked (many_progress append read stride count first) capacity most n before after (Err e)
    stops refusal = record { outcome = so_far.same ∙ many_stopped append read stride left at (now next) (room_left capacity next) some refusal; grew = tt }

    pub goes_on : {now₁ : Counts → S} {next₁ : Counts} {step left₁ : ℕ} → one ≡ reached (now₁ next₁) (room_left capacity next₁)
        → AllGrew most n next₁ → step ≡ stride → left₁ ≡ left - 1
        → Going append read stride first count capacity most n before now₁ next₁ (at + step) left₁
    goes_on {now₁} {next₁} further grew is-stride one_less = record {
      same =
          so_far.same
          ∙ many_further append read stride left at (now next) (room_left capacity next) some further
          ∙ (λ i. many_progress append read stride (sym one_less i) (at + sym is-stride i) (now₁ next₁) (room_left capacity next₁));
      grew = grew;
    }
