-- It ends: a member's type is one level deeper.
use Rattle.std.proofs.Common.{◌-◌}
use Rattle.reflection.specs.Limits.{type_levels}
use Rattle.report_lines.proofs.Reporter.+type_lines.Given as goal

abbrev pub decreases-type_lines : goal.decreases-type_lines
decreases-type_lines g l = type_levels - l.depth
