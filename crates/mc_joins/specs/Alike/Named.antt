-- States in which each node is named, and renamings that lead from nodes to others.
use Rattle.std.specs.Prelude.{◌≡◌, ◌++◌, ℕ, List, [], ◌∷◌, Some, map}
use Rattle.std.specs.List.{AllByRecursion}
use Rattle.mc_base.specs.declared.ids.NodeId.{NodeId}
use Rattle.mc_base.specs.declared.plain.Kind.{Kind}
use Rattle.mc_base.specs.Nodes.{null, moved}
use Rattle.mc_state.specs.Graph.Edges.{known_nodes, nodes_of}
use Rattle.mc_state.specs.Graph.Graph.{Edges}
use Rattle.mc_pure.specs.Pure.{kind_of}
use Rattle.mc_pure_ops.specs.Renaming.Images.{Images, image}
use Rattle.mc_state.specs.State.{State}
use Rattle.mc_state.specs.Facts.{IsUnnamed}
use Rattle.mc_joins.specs.Same.Same.{AreSameUnder}

-- each node but node 0 stands in a variable or in an edge
abbrev pub AllNamed : State → Type 0
AllNamed s = (n : NodeId) (kind : Kind) → kind_of s.kinds n ≡ Some kind → IsUnnamed n s → ⊥

-- the two states are the same under some renaming
abbrev pub AreSameBySome : State → State → Type 0
AreSameBySome s t = (f : ℕ → ℕ) × (back : ℕ → ℕ) × AreSameUnder f back s t

-- the nodes of edges, edge by edge
abbrev pub edge_nodes : Edges → List NodeId
edge_nodes [] = []
edge_nodes (e ∷ es) = nodes_of e.1 ++ edge_nodes es

-- the nodes of variables and then those of edges, each as often as it stands there
abbrev pub named_nodes : State → List NodeId
named_nodes s = known_nodes s.env ++ edge_nodes s.graph.edges

-- these images are those by every renaming that keeps node 0 and leads from the nodes to the others, one by one
abbrev pub AreLinks : List NodeId → List NodeId → Images → Type 0
AreLinks from to images =
    (f : ℕ → ℕ) → f 0 ≡ 0 → map (moved f) from ≡ to → AllByRecursion (λ n. f n.0 ≡ image images n.0) (null ∷ from)
