-- Numbers stay in their bounds.
use Rattle.std.proofs.Common.{◌+◌, ◌<◌, ℕ, zero, suc, List, [], ◌∷◌, ◌++◌, length, Option, Some, None, replicate, slice_set, refl, inl, inr, arith}
use Rattle.mc_base.specs.declared.ids.EdgeId.{EdgeId}
use Rattle.mc_base.specs.declared.ids.NodeId.{NodeId}
use Rattle.mc_base.specs.declared.plain.Atom.{Atom}
use Rattle.mc_base.specs.Atoms.{nodes_of_atom}
use Rattle.mc_state.specs.declared.graph.edge.Edge.{Edge}
use Rattle.mc_state.specs.Graph.Edges.{known_nodes, nodes_of}
use Rattle.mc_state.specs.Graph.Graph.{IdsAscend, numbered}
use Rattle.mc_pure.specs.Pure.{Kinds, IsNode}
use Rattle.mc_state.specs.State.{State, numbered_kinds, numbered_nodes}
use Rattle.mc_state.specs.Fits.{AreNodes}
use Rattle.mc_state.specs.Laws.{UnknownIsBounded, VarStaysBounded, NodesStayBounded, NodesAreBelow, NewNodesAreThere, NewNodesHaveKinds, AtomsStayBounded, EdgesStayBounded, FewerEdgesStayBounded, ReplacedStaysBounded, PickedNodesAreThere}
use Rattle.mc_state.proofs.Lists.{all_append, all_map}
use Rattle.mc_state.proofs.Nodes.{node_below, kind_left, node_left, node_right, ascend_append, numbered_ascend, numbered_there, numbered_have_kinds}
use Rattle.mc_state.proofs.Ids.{AllEdges, ids_append, ids_numbered, ids_without, ids_replaced, each_numbered, each_without, each_replaced, each_picked, picks_keep}

unknown_vars : (kinds : Kinds) (vars : ℕ) → AreNodes kinds (known_nodes (replicate vars None))
unknown_vars kinds zero = tt
unknown_vars kinds (suc vars) = unknown_vars kinds vars

pub unknown_is_bounded : UnknownIsBounded
unknown_is_bounded vars = record { positive = omega arith; kinds = tt; ids = tt; vars = unknown_vars [] vars; edges = tt; atoms = tt }

known_set : (kinds : Kinds) (xs : List (Option NodeId)) (place : ℕ) (x : Option NodeId) → AreNodes kinds (known_nodes (x ∷ [])) → AreNodes kinds (known_nodes xs) → AreNodes kinds (known_nodes (slice_set xs place x))
known_set kinds [] place x new a = a
known_set kinds (None ∷ xs) zero None new a = a
known_set kinds (Some m ∷ xs) zero None new a = a.1
known_set kinds (None ∷ xs) zero (Some n) new a = (new.0, a)
known_set kinds (Some m ∷ xs) zero (Some n) new a = (new.0, a.1)
known_set kinds (None ∷ xs) (suc place) x new a = known_set kinds xs place x new a
known_set kinds (Some m ∷ xs) (suc place) x new a = (a.0, known_set kinds xs place x new a.1)

pub var_stays_bounded : VarStaysBounded
var_stays_bounded s x n b there =
    record { positive = b.positive; kinds = b.kinds; ids = b.ids; vars = known_set s.kinds s.env x.0 n there b.vars; edges = b.edges; atoms = b.atoms }

-- ---- nodes

pub nodes_stay_bounded : NodesStayBounded
nodes_stay_bounded s kinds b =
    let positive : 0 < s.next = b.positive in
    let more = numbered_kinds s.next kinds in
    let same : (ns : List NodeId) → AreNodes s.kinds ns → AreNodes (s.kinds ++ more) ns = all_map (IsNode s.kinds) (IsNode (s.kinds ++ more)) (node_left s.kinds more) in
    record {
      positive = omega arith;
      kinds = ascend_append 1 s.next (s.next + length kinds) s.kinds more (omega arith) (omega arith) b.kinds (numbered_ascend s.next (s.next + length kinds) kinds refl);
      ids = b.ids;
      vars = same (known_nodes s.env) b.vars;
      edges = all_map (λ (e : EdgeId × Edge). AreNodes s.kinds (nodes_of e.1)) (λ (e : EdgeId × Edge). AreNodes (s.kinds ++ more) (nodes_of e.1)) (λ e there. same (nodes_of e.1) there) s.graph.edges b.edges;
      atoms = all_map (λ (f : Atom). AreNodes s.kinds (nodes_of_atom f)) (λ (f : Atom). AreNodes (s.kinds ++ more) (nodes_of_atom f)) (λ f there. same (nodes_of_atom f) there) s.atoms b.atoms;
    }

pub nodes_are_below : NodesAreBelow
nodes_are_below s n b there = node_below s.kinds 1 s.next n b.positive b.kinds there

pub new_nodes_are_there : NewNodesAreThere
new_nodes_are_there s kinds =
    let more = numbered_kinds s.next kinds in (
      all_map (IsNode more) (IsNode (s.kinds ++ more)) (node_right s.kinds more) (numbered_nodes s.next (length kinds)) (numbered_there s.next kinds),
      node_left s.kinds more,
    )

pub new_nodes_have_kinds : NewNodesHaveKinds
new_nodes_have_kinds s kinds b = (
  numbered_have_kinds 1 s.next s.kinds kinds b.kinds,
  λ kind n has. elim has [ inl e ↦ inl e | inr e ↦ inr (kind_left s.kinds (numbered_kinds s.next kinds) n kind e) ],
)

-- ---- atoms and edges

pub atoms_stay_bounded : AtomsStayBounded
atoms_stay_bounded s atoms b there =
    record { positive = b.positive; kinds = b.kinds; ids = b.ids; vars = b.vars; edges = b.edges; atoms = all_append (λ (f : Atom). AreNodes s.kinds (nodes_of_atom f)) s.atoms atoms b.atoms there }

module _ (s : State) where
  -- the edge's nodes are there
  abbrev EdgeIsThere : Edge → Type 0
  EdgeIsThere e = AreNodes s.kinds (nodes_of e)

pub edges_stay_bounded : EdgesStayBounded
edges_stay_bounded s new b there =
    let high = s.graph.next + length new in
    record {
      positive = b.positive;
      kinds = b.kinds;
      ids = ids_append 0 s.graph.next high s.graph.edges (numbered s.graph.next new) (omega arith) (omega arith) b.ids (ids_numbered s.graph.next high new refl);
      vars = b.vars;
      edges = all_append (λ (e : EdgeId × Edge). EdgeIsThere s e.1) s.graph.edges (numbered s.graph.next new) b.edges (each_numbered (EdgeIsThere s) s.graph.next new there);
      atoms = b.atoms;
    }

pub fewer_edges_stay_bounded : FewerEdgesStayBounded
fewer_edges_stay_bounded s ids picked left picks b =
    record {
      positive = b.positive;
      kinds = b.kinds;
      ids = picks_keep (λ es. IdsAscend 0 es s.graph.next) (λ es id. ids_without 0 es s.graph.next id) ids s.graph.edges picked left picks b.ids;
      vars = b.vars;
      edges = picks_keep (AllEdges (EdgeIsThere s)) (each_without (EdgeIsThere s)) ids s.graph.edges picked left picks b.edges;
      atoms = b.atoms;
    }

pub replaced_stays_bounded : ReplacedStaysBounded
replaced_stays_bounded s id new b there =
    record {
      positive = b.positive;
      kinds = b.kinds;
      ids = ids_replaced 0 s.graph.edges s.graph.next id new b.ids;
      vars = b.vars;
      edges = each_replaced (EdgeIsThere s) s.graph.edges id new there b.edges;
      atoms = b.atoms;
    }

pub picked_nodes_are_there : PickedNodesAreThere
picked_nodes_are_there s ids picked left picks b = each_picked (EdgeIsThere s) ids s.graph.edges picked left picks b.edges
