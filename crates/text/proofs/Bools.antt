-- Two lemmas of the library by the names that this repository gave them first.
use mathlib.Core.Path.{◌≡◌}
use mathlib.Core.Bool.{Bool, true, false, ◌&&◌}
use Rattle.std.proofs.lemmas.Bool.{and_parts, false_from_ne_true}

pub and-true : (a b : Bool) → (a && b) ≡ true → (a ≡ true) × (b ≡ true)
and-true = and_parts

pub false_unless : (b : Bool) → (b ≡ true → ⊥) → b ≡ false
false_unless = false_from_ne_true
