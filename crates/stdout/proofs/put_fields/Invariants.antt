-- What was written is the fields of the numbers before the index.
use Rattle.std.proofs.Common.{take}
use Rattle.std.specs.Io.KnownBytes.{Appends}
use Rattle.stdout.specs.Output.{fields}
use Rattle.stdout.proofs.put_fields.Given as goal

abbrev pub invariant-loop-n : goal.invariant-loop-n
invariant-loop-n g l = Appends (g.W.Write.contents l.initial.out) (g.W.Write.contents l.out) (fields (take l.n-index l.numbers))
