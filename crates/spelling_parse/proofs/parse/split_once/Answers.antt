-- `split_once` meets its contract: the first byte c parts the text.
use Rattle.std.proofs.Common.{rules}
use Rattle.std.proofs.lemmas.List.{take_rest}
use mathlib.Core.Path.{◌≡◌, ◌∙◌}
use Prim.Native.Nat.{ℕ, ◌+◌, ◌<◌}
use lib.ListN.{length, get_or}
use Rattle.spelling_parse.proofs.ParseParts.{split_absent, split_found}
use Rattle.spelling_parse.proofs.parse.split_once.Goals as goal

pub returns-in_err-i : goal.returns-in_err-i
returns-in_err-i c =
    let text = c.args.text.now in
    let nowhere : (k : ℕ) → k < length text → get_or text k 0 ≡ c.args.c → ⊥ = search rules in
    rw c.from_residual.ensures (split_absent c.args.c text nowhere)

pub returns : goal.returns
returns c =
    let text = c.args.text.now in
    let i = c.in_ok-i.i in
    let inside : i < length text = search rules in
    let here : get_or text i 0 ≡ c.args.c = search rules in
    let before : (k : ℕ) → k < i → get_or text k 0 ≡ c.args.c → ⊥ = search rules in
    split_found c.args.c text i inside here before ∙ rw (take_rest text (i + 1))
