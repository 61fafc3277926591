use mathlib.Core.Path.{◌≡◌, sym, ap, ◌∙◌}
use mathlib.Core.Bool.{Bool, ◌&&◌, not}
use Prim.Native.Nat.{ℕ, ◌-◌}
use native.Mathlib.Omega.{arith}
use lib.ListN.{length, get_or}
use Rattle.text.specs.Neighbours.{tail_due}
use Rattle.text.proofs.Neighbours.{fits_past}
use Rattle.text.proofs.long_utf8_ok.Goals as goal

pub returns : goal.returns
returns c =
    let s = c.args.s.now in let turn = c.loop-i in let i = turn.i in let all : i ≡ length s = omega arith in
    let due : (n : ℕ) → Bool = λ n. tail_due (get_or s (n - 3) 0) (get_or s (n - 2) 0) (get_or s (n - 1) 0) in
    sym (turn.invariant ∙ ap (λ t. turn.ok && t) (fits_past s i (get_or s (i - 3) 0) (get_or s (i - 2) 0) (get_or s (i - 1) 0) (omega arith))
    ∙ ap (λ n. turn.ok && not (due n)) all ∙ ap (λ t. turn.ok && not t) (sym c.tail_due.ensures))
