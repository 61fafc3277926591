-- Vocabulary of internal contracts: no contract of an exported function and no demand cites it. The types' table before and after a walk.
use Rattle.std.specs.Prelude.{◌≡◌, length, Ok, Err}
use Rattle.reflection.specs.Outcome.{Outcome}
use Rattle.read_spec.specs.declared.Counts.{Counts}
use Rattle.read_spec.specs.Step.{Walk}
use Rattle.read_types.specs.declared.filling.TypeFilling.{TypeFilling}

-- How many records the tables have after a walk, or why it refused.
abbrev pub counted : Outcome (Unit {0}) → Counts → Walk
counted (Ok u) n = Ok n
counted (Err e) n = Err e

-- The table is still the one that was lent, as long as it was; all tables can take as many records, and the others have as many.
pub record OnlyTypes (before after : TypeFilling) : Type 0 where
  pub types : after.types.ghost_name ≡ before.types.ghost_name
  pub types_long : length after.types.now ≡ length before.types.now
  pub capacity : after.capacity ≡ before.capacity
  pub bindings : after.counts.bindings ≡ before.counts.bindings
  pub buffers : after.counts.buffers ≡ before.counts.buffers
  pub variables : after.counts.variables ≡ before.counts.variables
