use mathlib.Core.Path.{sym, ap, ◌∙◌}
use mathlib.Core.List.{List, []}
use Prim.Native.Nat.{ℕ, ◌-◌}
use native.Mathlib.Omega.{arith}
use Rattle.std.proofs.lemmas.List.{nil_from_length}
use Rattle.text.specs.Utf8.{Left, run, whole, well_formed}
use Rattle.text.proofs.Sequences.{awaits, run_cut_short}
use Rattle.text.proofs.short_utf8_ok.Goals as goal

pub returns-in_default-next : goal.returns-in_default-next
unfolding well_formed
returns-in_default-next c =
    let turn = c.loop in let left = c.tails_after-tails.result - turn.counter in
    let ended = sym (nil_from_length turn.bytes.rest.now c.in_default-next.ensures.steps.0) in
    let here = ap (run (awaits left turn.low turn.high)) ended ∙ turn.invariant.decides in
    sym (ap whole (sym here) ∙ run_cut_short left turn.low turn.high (omega arith))

pub returns : goal.returns
unfolding well_formed run
returns c =
    let ended = sym (nil_from_length c.loop-first.bytes.rest.now c.in_default.ensures.steps.0) in
    ap (λ (bs : List ℕ). whole (run (Left.columns []) bs)) ended ∙ ap whole c.loop-first.invariant.decides
