-- What the rules that name, merge and drop give, or the first premise that is unmet.
use Rattle.std.specs.Prelude.{◌==◌, ◌&&◌, ◌||◌, ◌++◌, not, ℕ, zero, suc, ℤ, ◌-ℤ◌, Bool, true, false, List, [], ◌∷◌, Ok, is_some, length, filter, flat_map, if◌then◌else◌}
use Rattle.std.specs.List.{list_all, list_any}
use Rattle.mc_base.specs.declared.ids.EdgeId.{EdgeId}
use Rattle.mc_base.specs.declared.ids.NodeId.{NodeId}
use Rattle.mc_base.specs.declared.plain.Kind.{Kind}
use Rattle.mc_base.specs.declared.plain.Kind.TheVariants.{Int, Ptr}
use Rattle.mc_base.specs.declared.plain.Atom.{Atom}
use Rattle.mc_base.specs.declared.plain.Atom.TheVariants.{Eq, In}
use Rattle.mc_base.specs.Nodes.{null}
use Rattle.mc_state.specs.declared.graph.edge.Edge.{Edge}
use Rattle.mc_state.specs.Graph.Edges.{start_of, nodes_of, known_nodes}
use Rattle.mc_state.specs.Graph.Graph.{Edges, edge_with, without}
use Rattle.mc_pure.specs.Pure.{Kinds, kind_of, low_of, high_of}
use Rattle.mc_state.specs.Facts.{merged}
use Rattle.mc_state.specs.State.{State, next_node, with_nodes, with_atoms, with_only_edges}
use Rattle.mc_state.specs.Premises.{Judged, need, have}
use Rattle.mc_state.specs.Known.{Test, is_false, equal, has_kind}
use Rattle.mc_rules_logic.specs.Fold.Changed.{left_over}

-- the node is there
unfoldable pub is_there : Kinds → NodeId → Bool
is_there kinds n = if n.0 == 0 then true else is_some (kind_of kinds n)

-- the node, a number more, is known to lie in the range of a kind
abbrev pub lies_in : Test → Kind → NodeId → ℤ → Bool
lies_in know kind n add = know (In n (low_of kind -ℤ add) (high_of kind -ℤ add))

-- L8: a new node of a kind is another node and a number more
abbrev pub naming_spare : Test → NodeId → ℤ → Kind → State → Judged (List State)
naming_spare know node add kind s =
    need 2 (not (is_false know))
    (need 3 (is_there s.kinds node)
    (need 4 (lies_in know kind node add && has_kind s.kinds kind node)
    (Ok (with_atoms (with_nodes s (kind ∷ [])) (Eq (next_node s) node add ∷ []) ∷ []))))

-- both nodes are there, they differ, and the second is not node 0
abbrev pub may_merge : Kinds → NodeId → NodeId → Bool
may_merge kinds keep gone = is_there kinds keep && is_there kinds gone && not (keep.0 == gone.0) && not (gone.0 == 0)

-- the nodes are of one kind
abbrev pub of_one_kind : Kinds → NodeId → NodeId → Bool
of_one_kind kinds a b = (has_kind kinds Int a && has_kind kinds Int b) || (has_kind kinds Ptr a && has_kind kinds Ptr b)

-- L9: a node stands in place of an equal one everywhere
abbrev pub merging_nodes : Test → NodeId → NodeId → State → Judged (List State)
merging_nodes know keep gone s =
    need 2 (not (is_false know))
    (need 3 (may_merge s.kinds keep gone)
    (need 4 (of_one_kind s.kinds keep gone)
    (need 5 (equal know keep gone)
    (Ok (merged keep gone s ∷ [])))))

-- ---- reaching

-- the node is known to be equal to one of the nodes
abbrev pub equals_one : Test → List NodeId → NodeId → Bool
equals_one know ns n = list_any (λ m. equal know m n) ns

-- the edge starts at one of the nodes
abbrev pub starts_at : Test → List NodeId → EdgeId × Edge → Bool
starts_at know ns e = equals_one know ns (start_of e.1)

-- the nodes that are reached in so many rounds: each round adds all nodes of the edges that start at one that is reached
abbrev pub reached_in : Test → ℕ → Edges → List NodeId → List NodeId
reached_in know zero es ns = ns
reached_in know (suc rounds) es ns =
    reached_in know rounds (filter (λ e. not (starts_at know ns e)) es) (ns ++ flat_map (λ e. nodes_of e.1) (filter (starts_at know ns) es))

-- the node is reached from node 0 or a variable, in as many rounds as there are edges
abbrev pub is_reached : Test → State → NodeId → Bool
is_reached know s n = equals_one know (reached_in know (length s.graph.edges) s.graph.edges (null ∷ known_nodes s.env)) n

-- L10: an edge whose start is not reached is dropped
abbrev pub dropping_edge : Test → EdgeId → State → Judged (List State)
dropping_edge know edge s =
    need 2 (not (is_false know))
    (have 3 (edge_with s.graph.edges edge) (λ e.
    need 4 (not (is_reached know s (start_of e)))
    (Ok (record (with_only_edges s (without s.graph.edges edge)) { whole = false } ∷ []))))

-- ---- forgetting

-- the node is one of a list
abbrev pub is_listed : NodeId → List NodeId → Bool
is_listed n ns = list_any (λ m. m.0 == n.0) ns

-- the node stands in no variable and in no edge
abbrev pub is_unnamed : NodeId → State → Bool
is_unnamed n s = not (is_listed n (known_nodes s.env)) && list_all (λ e. not (is_listed n (nodes_of e.1))) s.graph.edges

-- L11: a node that stands in no variable and in no edge is forgotten; the atoms are those that are written then
abbrev pub forgetting_node : Test → List Atom → NodeId → State → Judged (List State)
forgetting_node know atoms node s =
    need 2 (not (is_false know))
    (need 3 (is_there s.kinds node && not (node.0 == 0))
    (need 4 (is_unnamed node s)
    (Ok (left_over s node atoms ∷ []))))
