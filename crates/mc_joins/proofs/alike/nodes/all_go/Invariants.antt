use Rattle.std.proofs.Common.{◌≡◌, ◌<◌, ℕ, Some, slice_get}
use Rattle.mc_base.specs.declared.ids.NodeId.{NodeId}
use Rattle.mc_pure.specs.Rows.{nodes_of}
use Rattle.mc_pure_ops.specs.Renaming.Images.{image}
use Rattle.mc_joins.specs.Alike.Alike.{way_back, Goes}
use Rattle.mc_joins.proofs.alike.nodes.all_go.Given as goal

abbrev pub invariant-loop-node : goal.invariant-loop-node
invariant-loop-node l = (place : ℕ) → place < l.node-index → (n : NodeId) → slice_get (nodes_of l.state.kinds) place ≡ Some n → Goes (image l.renaming) (way_back (image l.renaming) l.state) l.state.kinds l.other.kinds n
