use native.Mathlib.Omega.{arith}
use lib.ListN.{take}
use lib.Seq.{length-take-le}
use Rattle.text_output.proofs.Appended.{appended_none, appended_then}
use Rattle.write_bytes.specs.Bytes.{joined_bytes}
use Rattle.write_bytes.proofs.Joined.{length_joined, joined_take_more}
use Rattle.write_bytes.proofs.put_word_bytes.Goals as goal

pub loop-word-init : goal.loop-word-init
unfolding joined_bytes
loop-word-init c = appended_none c.args.out.now

pub put_word-requires : goal.put_word-requires
put_word-requires c =
    let l = c.loop-word in
    let words = c.args.words.now in
    omega (arith, l.invariant.text.next, length_joined (take l.word-index words), length-take-le l.word-index words l.auto.word-index-end)

pub loop-word-preserved : goal.loop-word-preserved
loop-word-preserved c =
    let l = c.loop-word in
    rw (joined_take_more c.args.words.now l.word-index c.loop-word-test.true) (appended_then l.invariant c.put_word.ensures)
