-- What an entry comes to: a value, or a refusal (document 01, "Refusals").
use Rattle.std.specs.Prelude.{Result}
use Rattle.reflection.specs.declared.refusal.Refusal.{Refusal}

abbrev pub Outcome : Type 0 → Type 0
Outcome A = Result A Refusal
