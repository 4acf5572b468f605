use Rattle.mc_lower.specs.Settled.{Walks}
use Rattle.mc_lower.proofs.settling.walk.Given as goal

abbrev pub invariant-loop : goal.invariant-loop
invariant-loop l = Walks l.initial.ways.items l.ways.items l.path.items l.start l.at
