use Rattle.std.proofs.Common.{◌<◌}
use Rattle.mc_base.specs.declared.ids.NodeId.{NodeId}
use Rattle.mc_pure_ops.specs.Join.Joint.{StandsFor, HaveOneKind}
use Rattle.mc_pure_ops.proofs.join.joinable.are_joinable.Given as goal

abbrev pub invariant-loop-i : goal.invariant-loop-i
invariant-loop-i a = (n l r : NodeId) → n.0 < a.i → StandsFor a.pairs n l r → HaveOneKind a.left a.right l r
