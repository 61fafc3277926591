-- What was written is the hex of the bytes before the index.
use Rattle.std.proofs.Common.{take}
use Rattle.std.specs.Io.KnownBytes.{Appends}
use Rattle.stdout.specs.Output.{hex_digits}
use Rattle.stdout.proofs.put_hex.Given as goal

abbrev pub invariant-loop-b : goal.invariant-loop-b
invariant-loop-b g l = Appends (g.W.Write.contents l.initial.out) (g.W.Write.contents l.out) (hex_digits (take l.b-index l.bytes))
