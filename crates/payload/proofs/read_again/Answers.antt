-- `read_again` meets its contract: what is read keeps to the room, so the tables keep their lengths.
use Prim.Native.Nat.{ℕ, ◌<◌}
use native.Mathlib.Omega.{arith}
use lib.ListN.{get_or}
use Rattle.payload.proofs.Lengths.{tables_kept}
use Rattle.payload.proofs.read_again.Goals as goal

pub returns : goal.returns
returns c =
    let read = c.parse_rdef.ensures in
    let bytes : (i : ℕ) → get_or c.args.chunk.now i 0 < 256 = λ i. omega (arith, c.type_inv.chunk i) in
    record { parsed = read.parsed; lengths = tables_kept _ bytes read.parsed; bytes = bytes; same = read.same }
