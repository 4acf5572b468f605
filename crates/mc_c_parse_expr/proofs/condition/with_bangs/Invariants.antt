use Rattle.std.proofs.Common.{◌≡◌, length}
use Rattle.mc_c_parse_expr.specs.Conditions.{whole_of, denied}
use Rattle.mc_c_parse_expr.proofs.condition.with_bangs.Given as goal

abbrev pub invariant-loop-place : goal.invariant-loop-place
invariant-loop-place l = denied l.bangs (whole_of l.operand) ≡ denied l.initial.bangs (whole_of l.initial.operand)

abbrev pub decreases-loop-place : goal.decreases-loop-place
decreases-loop-place l = length l.bangs
