use Rattle.std.proofs.Common.{◌≡◌, drop}
use Rattle.mc_gaps.specs.Unmet.Gaps.{first_unknown}
use Rattle.mc_gaps.proofs.unmet.unknown.unknown_of.Given as goal

abbrev pub invariant-loop-operand : goal.invariant-loop-operand
invariant-loop-operand l = first_unknown l.s (drop l.operand-index l.operands) ≡ first_unknown l.s l.operands
