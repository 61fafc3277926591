-- `put_word_bytes`: so far the words before the index are written.
use lib.ListN.{take}
use Rattle.text_output.specs.Output.{Appended}
use Rattle.write_bytes.specs.Bytes.{joined_bytes}
use Rattle.write_bytes.proofs.put_word_bytes.Given as goal

abbrev pub invariant-loop-word : goal.invariant-loop-word
invariant-loop-word l = Appended l.initial.out l.out (joined_bytes (take l.word-index l.words))
