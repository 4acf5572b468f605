-- Edges that could be dropped, and nodes that could be merged.
use Rattle.std.specs.Prelude.{◌≡◌, ℕ, Some, slice_get}
use Rattle.mc_base.specs.declared.ids.EdgeId.{EdgeId}
use Rattle.mc_base.specs.declared.ids.NodeId.{NodeId}
use Rattle.mc_state.specs.declared.graph.edge.Edge.{Edge}
use Rattle.mc_state.specs.Graph.Edges.{start_of}
use Rattle.mc_pure.specs.Rows.{nodes_of}
use Rattle.mc_state.specs.State.{State}
use Rattle.mc_state.specs.Facts.{AreEqual, CanMerge, IsReached}

-- one node may stand in place of another, and equals it
abbrev pub CanBeMerged : State → NodeId → NodeId → Type 0
CanBeMerged s keep gone = CanMerge s.kinds keep gone × AreEqual s keep gone

-- of all nodes, none can be merged with this one
abbrev pub NoneMergesWith : State → NodeId → Type 0
NoneMergesWith s keep =
    (place : ℕ) (gone : NodeId) → slice_get (nodes_of s.kinds) place ≡ Some gone → CanBeMerged s keep gone → ⊥

-- nor any two
abbrev pub NoneMerges : State → Type 0
NoneMerges s = (place : ℕ) (keep : NodeId) → slice_get (nodes_of s.kinds) place ≡ Some keep → NoneMergesWith s keep

-- each edge starts at a node that is reached
abbrev pub AllReached : State → Type 0
AllReached s = (place : ℕ) (e : EdgeId × Edge) → slice_get s.graph.edges place ≡ Some e → IsReached s (start_of e.1)
