use Rattle.mc_lower.proofs.Constants.{Collects}
use Rattle.mc_lower.proofs.finishing.constants_of.Given as goal

abbrev pub invariant-loop-at : goal.invariant-loop-at
invariant-loop-at l = Collects l.points l.at l.list.items
