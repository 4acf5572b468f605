-- Edges of a side that may be used, as code looks for them.
use Rattle.std.specs.Prelude.{◌==◌, ◌&&◌, not, Bool, List, filter}
use Rattle.mc_base.specs.declared.ids.EdgeId.{EdgeId}
use Rattle.mc_base.specs.declared.ids.NodeId.{NodeId}
use Rattle.mc_state.specs.declared.graph.edge.Edge.{Edge}
use Rattle.mc_state.specs.Graph.Edges.{start_of}
use Rattle.mc_state.specs.Graph.Graph.{Edges}
use Rattle.mc_state.specs.Named.{is_among}
use Rattle.mc_state.specs.declared.line.Side.{Side}
use Rattle.mc_pure_ops.specs.Join.Joint.{Pairs}
use Rattle.mc_joins.specs.Joinings.{Pair, is_alone}

-- the edge starts at a node
abbrev pub starts_there : NodeId → EdgeId × Edge → Bool
starts_there n e = (start_of e.1).0 == n.0

-- it is not used, and starts at a node
abbrev pub is_here : List EdgeId → NodeId → EdgeId × Edge → Bool
is_here used n e = not (is_among e.0 used) && starts_there n e

-- it starts at a node that is in no other pair
abbrev pub starts_alone : Pairs → Side → Pair → EdgeId × Edge → Bool
starts_alone pairs side p e = is_alone pairs side p (start_of e.1)

-- it is not used, and a fold at the pair may use it
abbrev pub may_fold : List EdgeId → Pairs → Side → Pair → EdgeId × Edge → Bool
may_fold used pairs side p e = not (is_among e.0 used) && starts_alone pairs side p e

-- the edges of these that a fold at the pair may use
abbrev pub folded_edges : Edges → Pairs → Side → Pair → Edges
folded_edges es pairs side p = filter (starts_alone pairs side p) es
