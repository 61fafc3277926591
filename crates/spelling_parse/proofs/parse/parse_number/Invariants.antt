-- `parse_number` meets its contract. The invariant of its loop: the value is below 65,536, and the digits from the index on decide.
use mathlib.Core.Path.{◌≡◌}
use Prim.Native.Nat.{◌<◌}
use Rattle.reflection.specs.Limits.{u16_limit}
use Rattle.spelling_parse.specs.Grammar.{number}
use Rattle.spelling_parse.proofs.ParseNumbers.{number_from}
use Rattle.spelling_parse.proofs.parse.parse_number.Given as goal

abbrev pub invariant-loop-b : goal.invariant-loop-b
invariant-loop-b l = record { below : l.value < u16_limit; decided : number l.fn.text ≡ number_from l.digits l.b-index l.value }
