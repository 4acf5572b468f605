use Rattle.std.proofs.Common.{◌≡◌, ◌≢◌, ℕ, ◌<◌, slice_get, Some, pos}
use Rattle.mc_base.specs.declared.ids.NodeId.{NodeId}
use Rattle.mc_pure_ops.specs.Canon.Gaps.{ArePair, IsMoved}
use Rattle.mc_pure_ops.proofs.canon.gaps.start_gives.Given as goal

abbrev pub invariant-loop-j : goal.invariant-loop-j
invariant-loop-j l = (j : ℕ) (x y : NodeId) → j < l.j → ArePair l.starts l.i j x y → IsMoved l.pure x y (pos 0) l.gap → ⊥
