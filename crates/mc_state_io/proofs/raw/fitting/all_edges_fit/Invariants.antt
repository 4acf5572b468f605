use Rattle.std.proofs.Common.{◌≡◌, ◌<◌, ℕ, Some, slice_get}
use Rattle.mc_state.specs.declared.graph.edge.Edge.{Edge}
use Rattle.mc_state.specs.Fits.{EdgeFitsDefs, EdgeFitsStructs}
use Rattle.mc_state_io.proofs.raw.fitting.all_edges_fit.Given as goal

abbrev pub invariant-loop-edge : goal.invariant-loop-edge
invariant-loop-edge l = (place : ℕ) → place < l.edge-index → (e : Edge) → slice_get l.edges place ≡ Some e → EdgeFitsDefs l.defs l.state.kinds e × EdgeFitsStructs l.structs l.state.kinds e
