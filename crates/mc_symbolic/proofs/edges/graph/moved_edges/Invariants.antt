use Rattle.std.proofs.Common.{◌≡◌, take, map}
use Rattle.mc_state.specs.Graph.Edges.{moved_edge}
use Rattle.mc_state.specs.Facts.{instead}
use Rattle.mc_symbolic.proofs.edges.graph.moved_edges.Given as goal

abbrev pub invariant-loop-e : goal.invariant-loop-e
invariant-loop-e l = l.list.items ≡ map (λ e. (e.0, moved_edge (instead l.keep.0 l.gone.0) e.1)) (take l.e-index l.edges)
