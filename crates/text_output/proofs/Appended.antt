-- The laws of `Appended`: nothing, and one piece after the other.
use Rattle.std.specs.Prelude.{refl, ℕ, List, [], ◌++◌}
use mathlib.Core.Path.{◌∙◌}
use Rattle.words.proofs.Splice.{put_none, put_then}
use Rattle.text_output.specs.declared.output.Output.{Output}
use Rattle.text_output.specs.Output.{Appended}

pub appended_none : (o : Output) → Appended o o []
appended_none o = record { text = put_none o.bytes.now o.at; same = refl }

pub appended_then : {o₀ o₁ o₂ : Output} {xs ys : List ℕ} → Appended o₀ o₁ xs → Appended o₁ o₂ ys → Appended o₀ o₂ (xs ++ ys)
appended_then p q = record { text = put_then p.text q.text; same = q.same ∙ p.same }
