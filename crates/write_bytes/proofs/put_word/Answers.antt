-- `put_word` meets its contract: the word's four bytes are copied into their place, or as many of them as have room.
use mathlib.Core.Path.{refl, ap, ◌∙◌}
use native.Mathlib.Omega.{arith}
use lib.ListN.{length}
use Rattle.words.specs.Splice.{splice}
use Rattle.words.proofs.Words.{length_word_bytes}
use Rattle.write_bytes.proofs.Copied.{splice_copied}
use Rattle.write_bytes.proofs.Stores.{le_bytes_word, word_put}
use Rattle.write_bytes.proofs.put_word.Goals.{then-end-out, else-end-out}
use Rattle.write_bytes.proofs.put_word.Goals as goal

pub returns : goal.returns
returns c =
    let out = c.args.out.now in
    elim c.if-end-out.branch [
      | then-end-out w ↦
          let bytes = w.copy_from_slice.ensures.after ∙ w.to_le_bytes.ensures ∙ le_bytes_word c.args.word in
          let copied = splice_copied out.bytes.now out.at _ w.copy_from_slice.new.self
          (omega (arith, ap length bytes, length_word_bytes c.args.word)) (omega (arith, w.if-end-out.true)) in
          rw w.out-is (record { text = word_put c.args.word (copied ∙ ap (splice out.bytes.now out.at) bytes); same = refl })
      | else-end-out w ↦
          let bytes = w.to_le_bytes-else-end-out.ensures ∙ le_bytes_word c.args.word in
          rw w.out-is (record { text = word_put c.args.word (w.overwrite.ensures ∙ ap (splice out.bytes.now out.at) bytes); same = refl })
    ]
