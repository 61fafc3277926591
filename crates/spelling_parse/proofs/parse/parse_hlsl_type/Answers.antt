-- `parse_hlsl_type` meets its contract: what is not understood is refused.
use mathlib.Core.Path.{◌≡◌, refl, ap, ◌∙◌}
use Rattle.std.specs.Option.{ok_or}
use Rattle.std.specs.Prelude.{Option, Some, None}
use Rattle.reflection.specs.declared.refusal.Refusal.TheVariants.{NoSpelling}
use Rattle.spelling_parse.specs.declared.TypeSpelling.{TypeSpelling}
use Rattle.spelling_parse.specs.Grammar.{spelled_type}
use Rattle.spelling_parse.proofs.parse.parse_hlsl_type.Goals as goal

refused : (o : Option TypeSpelling) → ok_or o NoSpelling ≡ spelled_type o
unfolding spelled_type
refused (Some s) = refl
refused None = refl

pub returns : goal.returns
returns c = c.ok_or.ensures.value ∙ refused c.parse_type.result ∙ ap spelled_type c.parse_type.ensures
