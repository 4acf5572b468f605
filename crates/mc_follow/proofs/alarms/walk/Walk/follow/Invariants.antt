use Rattle.mc_follow.specs.Alarms.Outcomes.{IsOnward}
use Rattle.mc_follow.specs.Alarms.Walks.{AreCovered}
use Rattle.mc_follow.proofs.alarms.walk.Walk.follow.Given as goal

abbrev pub invariant-loop-number : goal.invariant-loop-number
invariant-loop-number l = IsOnward l.flow l.defs l.self × AreCovered l.defs l.self.proof.branches
