-- `pad` meets its contract: as many spaces as the column lacks, which may be none.
use Rattle.std.proofs.Common.{arith, ℕ, ◌≡◌, ◌-◌}
use Rattle.std.proofs.lemmas.List.{take-replicate}
use Rattle.text_output.proofs.Appended.{appended_none}
use Rattle.listing.proofs.column.pad.Goals as goal

pub returns-then-used-width : goal.returns-then-used-width
returns-then-used-width c = rw (take-replicate {X = ℕ} (c.args.width - c.args.used) 20 32 (omega arith)) at c.put_bytes.ensures

pub returns-else-used-width : goal.returns-else-used-width
returns-else-used-width c =
    let none : c.args.width - c.args.used ≡ 0 = omega arith in
    rw none (appended_none c.args.out.now)
