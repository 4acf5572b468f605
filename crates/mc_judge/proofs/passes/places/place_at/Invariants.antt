use Rattle.std.proofs.Common.{◌≡◌}
use Rattle.mc_judge.proofs.PassesLemmas.Places.{ComesAfter}
use Rattle.mc_judge.proofs.passes.places.place_at.Given as goal

abbrev pub invariant-loop-head : goal.invariant-loop-head
invariant-loop-head l = (l.place ≡ l.head-index) × ComesAfter l.heads l.point l.head-index
