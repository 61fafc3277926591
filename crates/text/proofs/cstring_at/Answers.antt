use mathlib.Core.Path.{◌≡◌, sym, ◌∙◌}
use mathlib.Core.Bool.{true, false}
use native.Mathlib.Omega.{arith}
use lib.ListN.{take, drop, length-drop}
use Rattle.text.specs.Utf8.{well_formed}
use Rattle.text.proofs.Strings.{until_nul_end, cstring_no_nul, string_here, part_ascii}
use Rattle.text.proofs.cstring_at.Goals as goal
use Rattle.text.proofs.cstring_at.Goals.{then-ascii-via-then-ascii, then-ascii-via-else-ascii+then-utf8_ok}

pub returns-in_err-rest : goal.returns-in_err-rest
returns-in_err-rest c =
    let s = c.args.s.now in let at = c.args.at in
    rw c.from_residual.ensures
    (sym (cstring_no_nul s at (until_nul_end (drop at s) at 0 (omega (arith, c.in_err-rest.ensures.lookup.0, length-drop at s)))), tt)

pub returns-then-ascii : goal.returns-then-ascii
returns-then-ascii c =
    let turn = c.loop-length in let rest = c.in_ok-rest.rest.now in let n = turn.length in let is = c.in_ok-rest.ensures.lookup.0 in
    let formed : well_formed (take n rest) ≡ true =
    elim c.then-ascii.branch [
      | then-ascii-via-then-ascii w ↦ part_ascii rest n (omega arith) (turn.invariant.passed w.if-ascii.true)
      | then-ascii-via-else-ascii+then-utf8_ok w ↦ sym w.utf8_ok.ensures ∙ w.if-utf8_ok.true
    ] in
    (sym (string_here c.args.s.now rest c.args.at n is.2 turn.invariant.scan true (omega arith) c.if-b-eq0.true formed), omega (arith, is.3))

pub returns-then-b-eq0 : goal.returns-then-b-eq0
returns-then-b-eq0 c =
    let turn = c.loop-length in let rest = c.in_ok-rest.rest.now in let n = turn.length in let is = c.in_ok-rest.ensures.lookup.0 in (
      sym (string_here c.args.s.now rest c.args.at n is.2 turn.invariant.scan false (omega arith) c.if-b-eq0.true
          (sym c.utf8_ok.ensures ∙ c.if-utf8_ok.false)),
      tt,
    )
