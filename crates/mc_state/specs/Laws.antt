-- What holds of states and of what stands for them.
use Rattle.std.specs.Prelude.{◌≡◌, ◌<◌, ℕ, List, [], ◌∷◌, ℤ, ◌+ℤ◌, true, false, Option, Some, None, length, map, slice_index_or, slice_set}
use Rattle.std.specs.List.{AllByRecursion}
use Rattle.mc_base.specs.declared.ids.EdgeId.{EdgeId}
use Rattle.mc_base.specs.declared.ids.NodeId.{NodeId}
use Rattle.mc_base.specs.declared.ids.VarId.{VarId}
use Rattle.mc_base.specs.declared.plain.Kind.{Kind}
use Rattle.mc_base.specs.declared.plain.Atom.{Atom}
use Rattle.mc_base.specs.Atoms.{IsTrueAtom, nodes_of_atom}
use Rattle.mc_base.specs.Kinds.{InKind}
use Rattle.mc_base.specs.Nodes.{Valuation, at_node, moved}
use Rattle.mc_flow.specs.Heap.Heap.{Region, IsAtAddresses}
use Rattle.mc_flow.specs.Heap.Parts.{Split, IsEmpty, Star}
use Rattle.mc_flow.specs.declared.defs.rules.Def.{Def}
use Rattle.mc_flow.specs.Defs.Values.{InKinds}
use Rattle.mc_state.specs.declared.graph.edge.Edge.{Edge}
use Rattle.mc_state.specs.Graph.Edges.{known_nodes, nodes_of}
use Rattle.mc_state.specs.Graph.Graph.{Edges, Picks, edge_with, replaced}
use Rattle.mc_pure.specs.Pure.{Kinds, HasKind, IsNode}
use Rattle.mc_pure.specs.Derived.{LiesIn}
use Rattle.mc_state.specs.State.{State, unknown, pure_of, var_node, with_var, with_nodes, with_atoms, with_edges, with_only_edges, numbered_nodes, renamed}
use Rattle.mc_state.specs.Facts.{Derives, IsFalse, AreEqual, AreAllEqual, CanMerge, IsUnnamed, merged}
use Rattle.mc_pure.specs.Whole.{kinds_without}
use Rattle.mc_state.specs.Fits.{NodesAscend, AreNodes, HaveKinds, IsBounded}
use Rattle.mc_state.specs.Stands.{EdgeMeets, StandsBy, Stands, AgreeBelow, extended}

-- what is entailed is true wherever a configuration stands for the state
abbrev pub DerivedIsTrue : Type 0
DerivedIsTrue =
    (defs : List Def) (v : Valuation) (values : List (Option ℤ)) (region : Region) (s : State) (f : Atom)
    → IsAtAddresses region → StandsBy defs v values region s → Derives s f → IsTrueAtom v f

-- no configuration stands for a false state
abbrev pub NoneStandsForFalse : Type 0
NoneStandsForFalse =
    (defs : List Def) (values : List (Option ℤ)) (region : Region) (s : State)
    → IsAtAddresses region → Stands defs values region s → IsFalse s → ⊥

-- nodes that are entailed equal have one value
abbrev pub EqualNodesAreOne : Type 0
EqualNodesAreOne =
    (defs : List Def) (v : Valuation) (values : List (Option ℤ)) (region : Region) (s : State) (xs ys : List NodeId)
    → IsAtAddresses region → StandsBy defs v values region s → AreAllEqual s xs ys → map (at_node v) xs ≡ map (at_node v) ys

-- a node that, a number more, lies in the range of a kind has such a value
abbrev pub LiesInItsKind : Type 0
LiesInItsKind =
    (defs : List Def) (v : Valuation) (values : List (Option ℤ)) (region : Region) (s : State) (kind : Kind) (n : NodeId) (add : ℤ)
    → IsAtAddresses region → StandsBy defs v values region s → LiesIn (pure_of s) kind n add → InKind kind (v n.0 +ℤ add)

-- where nothing is allocated, any values stand for the state of which nothing is known
abbrev pub UnknownStands : Type 0
UnknownStands = (defs : List Def) (values : List (Option ℤ)) (region : Region) → IsEmpty region
    → Stands defs values region (unknown (length values))

-- a whole state without edges stands for nothing else
abbrev pub WholeWithoutEdges : Type 0
WholeWithoutEdges =
    (defs : List Def) (values : List (Option ℤ)) (region : Region) (s : State)
    → s.whole ≡ true → s.graph.edges ≡ [] → Stands defs values region s → IsEmpty region

-- only the values of numbers below the next one count
abbrev pub StandsByAgreement : Type 0
StandsByAgreement =
    (defs : List Def) (v w : Valuation) (values : List (Option ℤ)) (region : Region) (s : State)
    → IsBounded s → AgreeBelow s.next v w → StandsBy defs v values region s → StandsBy defs w values region s

-- new nodes get any values of their kinds
abbrev pub NodesAreAdded : Type 0
NodesAreAdded =
    (defs : List Def) (v : Valuation) (values : List (Option ℤ)) (region : Region) (s : State) (kinds : List Kind) (numbers : List ℤ)
    → IsBounded s → InKinds kinds numbers → StandsBy defs v values region s
    → StandsBy defs (extended v s.next numbers) values region (with_nodes s kinds)

-- and those values they have, and the others stay
abbrev pub NodesHaveValues : Type 0
NodesHaveValues =
    (v : Valuation) (n : ℕ) (numbers : List ℤ)
    → (map (at_node (extended v n numbers)) (numbered_nodes n (length numbers)) ≡ numbers) × AgreeBelow n v (extended v n numbers)

-- nodes that are there have the same values by such a valuation
abbrev pub ValuesAgree : Type 0
ValuesAgree =
    (s : State) (v w : Valuation) (ns : List NodeId)
    → IsBounded s → AgreeBelow s.next v w → AreNodes s.kinds ns → map (at_node w) ns ≡ map (at_node v) ns

-- true atoms are added
abbrev pub AtomsAreAdded : Type 0
AtomsAreAdded =
    (defs : List Def) (v : Valuation) (values : List (Option ℤ)) (region : Region) (s : State) (atoms : List Atom)
    → AllByRecursion (IsTrueAtom v) atoms → StandsBy defs v values region s → StandsBy defs v values region (with_atoms s atoms)

-- a variable that gets a node has the value of the node
abbrev pub VarIsSet : Type 0
VarIsSet =
    (defs : List Def) (v : Valuation) (values : List (Option ℤ)) (region : Region) (s : State) (x : VarId) (n : NodeId)
    → StandsBy defs v values region s → StandsBy defs v (slice_set values x.0 (Some (v n.0))) region (with_var s x (Some n))

-- a variable that is forgotten may have any value
abbrev pub VarIsForgotten : Type 0
VarIsForgotten =
    (defs : List Def) (v : Valuation) (values : List (Option ℤ)) (region : Region) (s : State) (x : VarId) (value : Option ℤ)
    → StandsBy defs v values region s → StandsBy defs v (slice_set values x.0 value) region (with_var s x None)

-- a known variable has the value of its node
abbrev pub VarIsKnown : Type 0
VarIsKnown =
    (defs : List Def) (v : Valuation) (values : List (Option ℤ)) (region : Region) (s : State) (x : VarId) (n : NodeId)
    → StandsBy defs v values region s → var_node s x ≡ Some n → slice_index_or values x.0 None ≡ Some (v n.0)

-- edges that are named have a part of their own, and what is left of the heap stands for the state without them
abbrev pub EdgesAreTaken : Type 0
EdgesAreTaken =
    (defs : List Def) (v : Valuation) (values : List (Option ℤ)) (region : Region) (s : State) (ids : List EdgeId)
    (picked : List Edge) (left : Edges)
    → Picks ids s.graph.edges picked left → StandsBy defs v values region s
    → (part : Region) × (others : Region) × Split region part others × Star (EdgeMeets defs v) picked part
    × StandsBy defs v values others (with_only_edges s left)

-- a part more of the heap stands for new edges that have it
abbrev pub EdgesArePut : Type 0
EdgesArePut =
    (defs : List Def) (v : Valuation) (values : List (Option ℤ)) (region part others : Region) (s : State) (new : List Edge)
    → Split region part others → Star (EdgeMeets defs v) new part → StandsBy defs v values others s
    → StandsBy defs v values region (with_edges s new)

-- an edge in place of another that has the same part
abbrev pub EdgeIsReplaced : Type 0
EdgeIsReplaced =
    (defs : List Def) (v : Valuation) (values : List (Option ℤ)) (before after : Region) (s : State) (id : EdgeId) (old new : Edge)
    → edge_with s.graph.edges id ≡ Some old → StandsBy defs v values before s
    → (part : Region) × (others : Region) × Split before part others × EdgeMeets defs v old part
    × ((changed : Region) → Split after changed others → EdgeMeets defs v new changed
    → StandsBy defs v values after (record s { graph = record s.graph { edges = replaced s.graph.edges id new } }))

-- other true atoms may stand in place of the written ones
abbrev pub AtomsAreDropped : Type 0
AtomsAreDropped =
    (defs : List Def) (v : Valuation) (values : List (Option ℤ)) (region : Region) (s : State) (atoms : List Atom)
    → AllByRecursion (IsTrueAtom v) atoms → StandsBy defs v values region s → StandsBy defs v values region (record s { atoms = atoms })

-- edges may be dropped where the state is whole no longer
abbrev pub EdgesAreDropped : Type 0
EdgesAreDropped =
    (defs : List Def) (v : Valuation) (values : List (Option ℤ)) (region : Region) (s : State) (ids : List EdgeId)
    (picked : List Edge) (left : Edges)
    → Picks ids s.graph.edges picked left → StandsBy defs v values region s
    → StandsBy defs v values region (record (with_only_edges s left) { whole = false })

-- a node may be dropped
abbrev pub NodeIsDropped : Type 0
NodeIsDropped =
    (defs : List Def) (v : Valuation) (values : List (Option ℤ)) (region : Region) (s : State) (n : NodeId)
    → StandsBy defs v values region s → StandsBy defs v values region (record s { kinds = kinds_without s.kinds n })

-- what stands for a renamed state stands for the state, where 0 goes to 0 and each image has a value of the node's kind
abbrev pub RenamedStands : Type 0
RenamedStands =
    (defs : List Def) (v : Valuation) (values : List (Option ℤ)) (region : Region) (s : State) (f : ℕ → ℕ) (kinds : Kinds) (next : ℕ)
    → f 0 ≡ 0 → AllByRecursion (λ k. InKind k.1 (v (f k.0.0))) s.kinds
    → StandsBy defs v values region (renamed f kinds next s) → StandsBy defs (λ n. v (f n)) values region s

-- the kinds of the images
abbrev pub moved_kinds : (ℕ → ℕ) → Kinds → Kinds
moved_kinds f kinds = map (λ k. (moved f k.0, k.1)) kinds

-- no two of node 0 and the nodes have one image
abbrev pub IsInjective : (ℕ → ℕ) → Kinds → Type 0
IsInjective f kinds = (m n : NodeId) → IsNode kinds m → IsNode kinds n → f m.0 ≡ f n.0 → m ≡ n

-- and where no two nodes have one image, what stands for the state stands for the renamed one
abbrev pub StandsRenamed : Type 0
StandsRenamed =
    (defs : List Def) (values : List (Option ℤ)) (region : Region) (s : State) (f : ℕ → ℕ) (next : ℕ)
    → IsBounded s → f 0 ≡ 0 → IsInjective f s.kinds
    → Stands defs values region s → Stands defs values region (renamed f (moved_kinds f s.kinds) next s)

-- where equal nodes are merged, the same valuation serves
abbrev pub StandsMerged : Type 0
StandsMerged =
    (defs : List Def) (v : Valuation) (values : List (Option ℤ)) (region : Region) (s : State) (keep gone : NodeId)
    → IsAtAddresses region → AreEqual s keep gone
    → StandsBy defs v values region s → StandsBy defs v values region (merged keep gone s)

-- and what stands for the merged state stands for the state
abbrev pub MergedStands : Type 0
MergedStands =
    (defs : List Def) (values : List (Option ℤ)) (region : Region) (s : State) (keep gone : NodeId)
    → IsBounded s → CanMerge s.kinds keep gone → Stands defs values region (merged keep gone s) → Stands defs values region s

-- ---- numbers stay in their bounds

-- a state of which nothing is known
abbrev pub UnknownIsBounded : Type 0
UnknownIsBounded = (vars : ℕ) → IsBounded (unknown vars)

-- where a variable gets a node that is there, or is forgotten
abbrev pub VarStaysBounded : Type 0
VarStaysBounded = (s : State) (x : VarId) (n : Option NodeId) → IsBounded s → AreNodes s.kinds (known_nodes (n ∷ []))
    → IsBounded (with_var s x n)

-- where there are new nodes
abbrev pub NodesStayBounded : Type 0
NodesStayBounded = (s : State) (kinds : List Kind) → IsBounded s → IsBounded (with_nodes s kinds)

-- nodes that are there are below the next number
abbrev pub NodesAreBelow : Type 0
NodesAreBelow = (s : State) (n : NodeId) → IsBounded s → IsNode s.kinds n → n.0 < s.next

-- new nodes are there
abbrev pub NewNodesAreThere : Type 0
NewNodesAreThere =
    (s : State) (kinds : List Kind)
    → AreNodes (with_nodes s kinds).kinds (numbered_nodes s.next (length kinds))
    × ((n : NodeId) → IsNode s.kinds n → IsNode (with_nodes s kinds).kinds n)

-- each with its kind, and the others keep theirs
abbrev pub NewNodesHaveKinds : Type 0
NewNodesHaveKinds =
    (s : State) (kinds : List Kind) → IsBounded s
    → HaveKinds (with_nodes s kinds).kinds kinds (numbered_nodes s.next (length kinds))
    × ((kind : Kind) (n : NodeId) → HasKind s.kinds kind n → HasKind (with_nodes s kinds).kinds kind n)

-- where atoms of nodes that are there are added
abbrev pub AtomsStayBounded : Type 0
AtomsStayBounded = (s : State) (atoms : List Atom) → IsBounded s
    → AllByRecursion (λ a. AreNodes s.kinds (nodes_of_atom a)) atoms → IsBounded (with_atoms s atoms)

-- where edges of nodes that are there are added
abbrev pub EdgesStayBounded : Type 0
EdgesStayBounded = (s : State) (new : List Edge) → IsBounded s
    → AllByRecursion (λ e. AreNodes s.kinds (nodes_of e)) new → IsBounded (with_edges s new)

-- where edges are taken away
abbrev pub FewerEdgesStayBounded : Type 0
FewerEdgesStayBounded =
    (s : State) (ids : List EdgeId) (picked : List Edge) (left : Edges)
    → Picks ids s.graph.edges picked left → IsBounded s → IsBounded (with_only_edges s left)

-- where an edge gets another in its place
abbrev pub ReplacedStaysBounded : Type 0
ReplacedStaysBounded =
    (s : State) (id : EdgeId) (new : Edge)
    → IsBounded s → AreNodes s.kinds (nodes_of new)
    → IsBounded (record s { graph = record s.graph { edges = replaced s.graph.edges id new } })

-- the nodes of edges that are named are there
abbrev pub PickedNodesAreThere : Type 0
PickedNodesAreThere =
    (s : State) (ids : List EdgeId) (picked : List Edge) (left : Edges)
    → Picks ids s.graph.edges picked left → IsBounded s → AllByRecursion (λ e. AreNodes s.kinds (nodes_of e)) picked

-- where nodes are renamed, and their images are there
abbrev pub RenamedStaysBounded : Type 0
RenamedStaysBounded =
    (s : State) (f : ℕ → ℕ) (kinds : Kinds) (next : ℕ)
    → IsBounded s → 0 < next → NodesAscend 1 kinds next
    → ((n : NodeId) → IsNode s.kinds n → IsNode kinds (moved f n)) → IsBounded (renamed f kinds next s)

-- where two nodes are merged
abbrev pub MergedStaysBounded : Type 0
MergedStaysBounded = (s : State) (keep gone : NodeId) → CanMerge s.kinds keep gone → IsBounded s → IsBounded (merged keep gone s)

-- where a node that nothing names is dropped, and other atoms are written
abbrev pub DroppedStaysBounded : Type 0
DroppedStaysBounded =
    (s : State) (n : NodeId) (atoms : List Atom)
    → IsBounded s → IsUnnamed n s → AllByRecursion (λ a. AreNodes (kinds_without s.kinds n) (nodes_of_atom a)) atoms
    → IsBounded (record s { kinds = kinds_without s.kinds n; atoms = atoms })
