-- A state without an edge that nothing reaches.
use Rattle.std.specs.Prelude.{false}
use Rattle.mc_base.specs.declared.ids.EdgeId.{EdgeId}
use Rattle.mc_state.specs.Graph.Graph.{without}
use Rattle.mc_state.specs.State.{State, with_only_edges}

-- the edge is dropped, and the edges are all that is allocated no longer
abbrev pub dropped : EdgeId → State → State
dropped edge s = record (with_only_edges s (without s.graph.edges edge)) { whole = false }
