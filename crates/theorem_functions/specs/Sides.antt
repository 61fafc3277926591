-- Vocabulary of `write_pair`: what each of two sides lends, and what is left with it.
use Rattle.std.specs.Prelude.{◌≡◌}
use Rattle.theorem_functions.specs.declared.Side.{Side}
use Rattle.theorem_functions.specs.Calls.{Lent, Left, lent_in, left_in}

abbrev pub lent_by : Side → Lent
lent_by s = lent_in s.texts s.r s.scratch.now s.out.now

abbrev pub left_with : Side → Left
left_with s = left_in s.scratch.now s.out.now s.found.now

-- The texts and the reflection are still those that were given, and scratch, output and tables those that were lent.
pub record SameSide (before after : Side) : Type 0 where
  pub texts : after.texts ≡ before.texts
  pub r : after.r ≡ before.r
  pub scratch : after.scratch.ghost_name ≡ before.scratch.ghost_name
  pub out : after.out.ghost_name ≡ before.out.ghost_name
  pub found : after.found.ghost_name ≡ before.found.ghost_name
