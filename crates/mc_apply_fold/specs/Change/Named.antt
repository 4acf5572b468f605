-- The nodes of edges that ids name.
use Rattle.std.specs.Prelude.{◌≡◌, ◌&&◌, true, List, ◌∷◌, Some}
use Rattle.std.specs.List.{AllByRecursion}
use Rattle.mc_base.specs.declared.ids.EdgeId.{EdgeId}
use Rattle.mc_base.specs.declared.ids.NodeId.{NodeId}
use Rattle.mc_base.specs.declared.ids.PredId.{PredId}
use Rattle.mc_base.specs.declared.plain.Kind.{Kind}
use Rattle.mc_state.specs.declared.graph.edge.Edge.TheVariants.{Seg}
use Rattle.mc_state.specs.Graph.Edges.{nodes_of}
use Rattle.mc_state.specs.Graph.Graph.{Edges, edge_with}
use Rattle.mc_state.specs.Known.{has_kind}
use Rattle.mc_state.specs.Lists.{all_both}
use Rattle.mc_pure.specs.Pure.{Kinds}
use Rattle.mc_state.specs.Fits.{AreNodes}

-- where the nodes of all edges are there, so are the start and the end of a Seg that an id names
abbrev pub AreEdgesHere : Type 0
AreEdgesHere =
    (kinds : Kinds) (es : Edges) (id : EdgeId) (at : NodeId) (args : List NodeId) (pred : PredId) (stop : NodeId)
    (ends : List NodeId) → AllByRecursion (λ e. AreNodes kinds (nodes_of e.1)) es
    → edge_with es id ≡ Some (Seg at args pred stop ends)
    → AreNodes kinds (at ∷ args) × AreNodes kinds (stop ∷ ends)

-- nodes that are known to have kinds are there
abbrev pub AreKindsThere : Type 0
AreKindsThere =
    (kinds : Kinds) (kind : Kind) (ks : List Kind) (n : NodeId) (ns : List NodeId)
    → (has_kind kinds kind n && all_both (has_kind kinds) ks ns) ≡ true → AreNodes kinds (n ∷ ns)
