-- What two walks, one after the other, leave as it is.
use mathlib.Core.Path.{◌≡◌, subst, ◌∙◌}
use mathlib.Core.List.{List}
use Prim.Native.Nat.{ℕ}
use Rattle.read_spec.specs.declared.Counts.{Counts}
use Rattle.read_spec.specs.Step.{Room, Walk}
use Rattle.read_types.specs.declared.filling.TypeFilling.{TypeFilling}
use Rattle.read_types.specs.Progress.{Progress}
use Rattle.read_types.specs.Walk.{WalkedType}
use Rattle.read_types.specs.Filling.{OnlyTypes}

pub types_then : {a b c : TypeFilling} → OnlyTypes a b → OnlyTypes b c → OnlyTypes a c
types_then p q = record {
  types = q.types ∙ p.types;
  types_long = q.types_long ∙ p.types_long;
  capacity = q.capacity ∙ p.capacity;
  bindings = q.bindings ∙ p.bindings;
  buffers = q.buffers ∙ p.buffers;
  variables = q.variables ∙ p.variables;
}

-- The walk of a type, where the tables can take as many records as before.
pub walked_within : {out : List ℕ → Room → Progress (List ℕ)} {levels : ℕ} {capacity capacity' n : Counts} {types types' path path' : List ℕ} {r : Walk}
    → capacity ≡ capacity' → WalkedType out levels capacity n types types' path path' r → WalkedType out levels capacity' n types types' path path' r
walked_within {out} {levels} {n = n} {types} {types'} {path} {path'} {r} same w =
    subst (λ (k : Counts). WalkedType out levels k n types types' path path' r) same w
