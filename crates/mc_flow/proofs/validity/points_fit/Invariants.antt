use Rattle.std.proofs.Common.{◌≡◌, ◌<◌, ℕ, Some, slice_get}
use Rattle.mc_flow.specs.declared.graph.Point.{Point}
use Rattle.mc_flow.specs.Valid.{PointFits}
use Rattle.mc_flow.proofs.validity.points_fit.Given as goal

abbrev pub invariant-loop-at : goal.invariant-loop-at
invariant-loop-at l = (p : ℕ) (point : Point) → p < l.at → slice_get l.flow.points p ≡ Some point → PointFits l.flow l.defs p point
