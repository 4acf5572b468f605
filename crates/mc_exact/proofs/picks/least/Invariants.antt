use Rattle.mc_state.specs.Known.{Test, Tells}
use Rattle.mc_exact.proofs.LeastNodes.{IsAfter}
use Rattle.mc_exact.proofs.picks.least.Given as goal

abbrev pub invariant-loop-number : goal.invariant-loop-number
invariant-loop-number l = (know : Test) → Tells know l.state → IsAfter know l.node l.number
