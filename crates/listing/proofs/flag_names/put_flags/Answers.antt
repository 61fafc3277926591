-- `put_flags` meets its contract: nothing, the names, or hex where no name was written.
use native.Mathlib.Omega.{arith}
use Rattle.text_output.proofs.Appended.{appended_none, appended_then}
use Rattle.listing.proofs.Joined.{no_flags, named_flags, nameless_flags}
use Rattle.listing.proofs.flag_names.put_flags.Goals as goal

pub returns-then-flags-eq0 : goal.returns-then-flags-eq0
returns-then-flags-eq0 c =
    let a = c.args in
    rw (no_flags a.flags.0 c.if-flags-eq0.true) (appended_none a.out.now)

pub returns-else-out-start : goal.returns-else-out-start
returns-else-out-start c =
    let names = c.put_set_names.ensures in
    let w = c.args.flags.0 in
    let some = c.if-flags-eq0.false in
    let other = c.if-out-start.false in
    rw (named_flags w some (omega (arith, names.text.next))) (appended_then c.put_byte.ensures names)

pub returns-then-out-start : goal.returns-then-out-start
returns-then-out-start c =
    let names = c.put_set_names.ensures in
    let digits = appended_then c.put_bytes.ensures c.put_hex.ensures.text in
    let same = c.if-out-start.true in
    let w = c.args.flags.0 in
    let some = c.if-flags-eq0.false in
    rw (nameless_flags w some (omega (arith, names.text.next))) (appended_then c.put_byte.ensures (appended_then names digits))
