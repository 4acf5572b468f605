use Rattle.std.proofs.Common.{take}
use Rattle.mc_base.specs.Ranges.Ends.{IsInt}
use Rattle.mc_base.specs.Ranges.Thresholds.{IsNearestAbove}
use Rattle.mc_base.proofs.ranges.ends.nearest_above.Given as goal

abbrev pub invariant-loop-threshold : goal.invariant-loop-threshold
invariant-loop-threshold l = IsNearestAbove (take l.threshold-index l.thresholds) l.number l.nearest × IsInt l.nearest
