use Rattle.std.proofs.Common.{◌≡◌, ◌+◌, [], ◌∷◌, ◌++◌, arith, take, subst}
use Rattle.std.specs.Io.KnownBytes.{Appends}
use Rattle.std.proofs.KnownBytes.{Appends-trans}
use Rattle.stdout.specs.Output.{hex_digits}
use Rattle.stdout.proofs.Hex.{digits_next}
use Rattle.stdout.proofs.put_hex.Goals as goal

pub loop-b-preserved : goal.loop-b-preserved
loop-b-preserved g c =
    let i = c.loop-b.b-index in
    let xs = c.args.bytes.now in
    let next = digits_next xs i (omega (arith, c.loop-b-test.true)) in
    let joined : hex_digits (take i xs) ++ c.hex_digit.result ∷ c.hex_digit-in-loop-b.result ∷ [] ≡ hex_digits (take (i + 1) xs) =
    grind (arith, next, c.hex_digit.ensures, c.hex_digit-in-loop-b.ensures) in
    subst (Appends _ _) joined (Appends-trans _ _ _ _ _ c.loop-b.invariant c.in_ok-write_all.ensures.bytes)
