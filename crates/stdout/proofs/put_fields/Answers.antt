use Rattle.std.proofs.Common.{arith, sym, subst}
use Rattle.std.specs.Io.KnownBytes.{Appends}
use Rattle.std.proofs.KnownBytes.{Appends-trans}
use Rattle.stdout.proofs.Fields.{fields_next}
use Rattle.stdout.proofs.put_fields.Goals as goal

pub loop-n-preserved : goal.loop-n-preserved
loop-n-preserved g c =
    let i = c.loop-n.n-index in
    let xs = c.args.numbers.now in
    let next = fields_next xs i (omega (arith, c.loop-n-test.true)) in
    let field = Appends-trans _ _ _ _ _ c.in_ok-put_byte.ensures c.in_ok-put_decimal.ensures in
    subst (Appends _ _) (sym next) (Appends-trans _ _ _ _ _ c.loop-n.invariant field)
