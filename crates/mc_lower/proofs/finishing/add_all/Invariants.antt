use Rattle.std.proofs.Common.{◌≡◌, ◌++◌, take}
use Rattle.mc_lower.specs.Finished.{constants}
use Rattle.mc_lower.proofs.finishing.add_all.Given as goal

abbrev pub invariant-loop-operand : goal.invariant-loop-operand
invariant-loop-operand l = l.list.items ≡ l.initial.list.items ++ constants (take l.operand-index l.operands)
