use Rattle.mc_judge.proofs.PassesLemmas.Places.{AreSoFar}
use Rattle.mc_judge.proofs.passes.places.states_at.Given as goal

abbrev pub invariant-loop-head : goal.invariant-loop-head
invariant-loop-head l = AreSoFar l.heads l.point l.states.items l.head-index
