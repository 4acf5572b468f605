use Rattle.std.specs.Prelude.{Contains}
use Rattle.std.specs.List.{AllWithin}
use Rattle.mc_find.proofs.accepted.are_cuts.Given as goal

abbrev pub invariant-loop-point : goal.invariant-loop-point
invariant-loop-point l = AllWithin (Contains l.cuts) l.points 0 l.point-index
