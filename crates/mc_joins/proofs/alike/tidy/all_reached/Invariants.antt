use Rattle.std.proofs.Common.{◌≡◌, ◌<◌, ℕ, Some, slice_get}
use Rattle.mc_base.specs.declared.ids.EdgeId.{EdgeId}
use Rattle.mc_state.specs.declared.graph.edge.Edge.{Edge}
use Rattle.mc_state.specs.Graph.Edges.{start_of}
use Rattle.mc_state.specs.Facts.{IsReached}
use Rattle.mc_joins.proofs.alike.tidy.all_reached.Given as goal

abbrev pub invariant-loop-edge : goal.invariant-loop-edge
invariant-loop-edge l = (place : ℕ) → place < l.edge-index → (e : EdgeId × Edge) → slice_get l.state.graph.edges place ≡ Some e → IsReached l.state (start_of e.1)
