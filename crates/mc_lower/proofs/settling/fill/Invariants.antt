use Rattle.std.proofs.Common.{take}
use Rattle.mc_lower.specs.Settled.{IsFilled}
use Rattle.mc_lower.proofs.settling.fill.Given as goal

abbrev pub invariant-loop-at : goal.invariant-loop-at
invariant-loop-at l = IsFilled l.initial.ways.items l.ways.items (take l.at l.path) l.point
