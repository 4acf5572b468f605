use Rattle.mc_judge.proofs.PassesLemmas.Places.{IsLeft}
use Rattle.mc_judge.proofs.passes.places.place_for.Given as goal

abbrev pub invariant-loop-place : goal.invariant-loop-place
invariant-loop-place l = IsLeft l.heads l.point l.number l.left l.place
