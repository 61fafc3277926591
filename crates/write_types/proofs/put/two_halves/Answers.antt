-- `two_halves` meets its contract: a word has the four bytes of the sum that it was cut from.
use mathlib.Core.Path.{◌≡◌, ap, ◌∙◌}
use Prim.Native.Nat.{◌+◌, ◌*◌, ◌%◌}
use native.Mathlib.Omega.{arith}
use Rattle.words.specs.Words.{word_bytes}
use Rattle.write_spec.specs.Records.{halves}
use Rattle.write_types.proofs.Putting.{word_cut}
use Rattle.write_types.proofs.put.two_halves.Goals as goal

pub returns : goal.returns
unfolding halves
returns c =
    let low = c.args.low in
    let high = c.args.high in
    let sum : (low + high * 65536 % 4294967296) % 4294967296 ≡ (low + high * 65536) % 4294967296 = omega arith in
    ap word_bytes sum ∙ word_cut (low + high * 65536)
