use Rattle.std.proofs.Common.{◌≡◌, ◌++◌, drop}
use Rattle.mc_lower.proofs.finishing.structs_again.Given as goal

abbrev pub invariant-loop-info : goal.invariant-loop-info
invariant-loop-info l = l.list.items ++ drop l.info-index l.structs.list ≡ l.structs.list
