use Rattle.mc_lower.specs.Settled.{AreOpen}
use Rattle.mc_lower.proofs.settling.open_ways.Given as goal

abbrev pub invariant-loop-label : goal.invariant-loop-label
invariant-loop-label l = AreOpen l.count l.label l.ways.items
