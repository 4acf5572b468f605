use Rattle.std.proofs.Common.{◌≡◌, take, map}
use Rattle.mc_base.specs.Nodes.{moved}
use Rattle.mc_state.specs.Facts.{instead}
use Rattle.mc_symbolic.proofs.edges.graph.moved_nodes.Given as goal

abbrev pub invariant-loop-node : goal.invariant-loop-node
invariant-loop-node l = l.list ≡ map (moved (instead l.keep.0 l.gone.0)) (take l.node-index l.nodes)
