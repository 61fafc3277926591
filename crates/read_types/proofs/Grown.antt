-- How the numbers of records grow: a walk that goes on where another ended.
use Prim.Native.Nat.{ℕ, ◌≤◌}
use native.Mathlib.Omega.{arith}
use Rattle.read_spec.specs.declared.Counts.{Counts}
use Rattle.read_types.specs.Walked.{Grew, AllGrew}
use Rattle.read_types.specs.Walk.{up_to_types}

-- From n to k, and from k or one more to m.
pub further : {most most₁ n k k₁ m : ℕ} → Grew most n k → Grew most₁ k₁ m → k ≤ k₁ → most₁ ≤ most → Grew most n m
further a b on less = record { low = omega (arith, a.low, b.low); high = omega (arith, b.high) }

pub types_further : (capacity : Counts) {n k m : Counts} → AllGrew (up_to_types capacity n) n k → AllGrew (up_to_types capacity k) k m
    → AllGrew (up_to_types capacity n) n m
types_further capacity a b = record {
  bindings = further a.bindings b.bindings (omega arith) a.bindings.high;
  buffers = further a.buffers b.buffers (omega arith) a.buffers.high;
  variables = further a.variables b.variables (omega arith) a.variables.high;
  types = further a.types b.types (omega arith) (omega arith);
}
