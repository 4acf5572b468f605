use Rattle.std.proofs.Common.{◌≡◌, take, map}
use Rattle.mc_state.specs.Known.{Test, Tells}
use Rattle.mc_exact.specs.Real.{answered}
use Rattle.mc_exact.proofs.picks.answers.Given as goal

abbrev pub invariant-loop-pick : goal.invariant-loop-pick
invariant-loop-pick l = (know : Test) → Tells know l.state → l.list.items ≡ map (answered know) (take l.pick-index l.picks)
