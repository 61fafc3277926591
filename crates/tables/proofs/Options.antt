-- What stood in an option, and what a step of decoding that gave something was given.
use Rattle.std.proofs.lemmas.Option.{none-some}
use Rattle.std.specs.Prelude.{Option, None, Some}
use mathlib.Core.Path.{◌≡◌, refl, ap}
use mathlib.Core.Bool.{Bool, true, false}
use Rattle.tables.specs.Nodes.{◌>>=◌}
use Rattle.tables.specs.Decode.{guard}

pub some_was : {A : Type 0} {a b : A} → Some a ≡ Some b → a ≡ b
some_was {a = a} e = ap (λ o. elim o [ None ↦ a | Some x ↦ x ]) e

pub then_was : {A B : Type 0} (m : Option A) (f : A → Option B) (b : B) → (m >>= f) ≡ Some b → (a : A) × (m ≡ Some a) × (f a ≡ Some b)
unfolding ◌>>=◌
then_was None f b e = absurd (none-some b e)
then_was (Some a) f b e = (a, refl, e)

-- A test that let a step go on held.
pub check_was : {B : Type 0} (b : Bool) (f : Unit {0} → Option B) (x : B) → (guard b >>= f) ≡ Some x → (b ≡ true) × (f tt ≡ Some x)
unfolding guard ◌>>=◌
check_was true f x e = (refl, e)
check_was false f x e = absurd (none-some x e)
