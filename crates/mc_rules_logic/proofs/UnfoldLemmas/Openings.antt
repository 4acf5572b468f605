-- The body of a rule takes the place of an edge.
use Rattle.std.proofs.Common.{◌≡◌, ℕ, zero, suc, ℤ, pos, Option, Some, None, List, [], ◌∷◌, ◌++◌, map, length, drop, refl, sym, ◌∙◌, ap, ap₂, subst}
use Rattle.std.specs.List.{AllByRecursion}
use Rattle.std.proofs.lemmas.List.{map-append, length-map}
use Rattle.mc_base.specs.declared.ids.EdgeId.{EdgeId}
use Rattle.mc_base.specs.declared.ids.NodeId.{NodeId}
use Rattle.mc_base.specs.declared.ids.PredId.{PredId}
use Rattle.mc_base.specs.declared.ids.StructId.{StructId}
use Rattle.mc_base.specs.declared.plain.Atom.{Atom}
use Rattle.mc_base.specs.Atoms.{nodes_of_atom}
use Rattle.mc_base.specs.Nodes.{Valuation, at_node}
use Rattle.mc_flow.specs.Heap.Heap.{Region}
use Rattle.mc_flow.specs.Heap.Parts.{Split, Star}
use Rattle.mc_flow.specs.Heap.PartLaws.{SplitCommutes, SplitDropsEmpty}
use Rattle.mc_flow.specs.declared.defs.rules.Call.{Call}
use Rattle.mc_flow.specs.declared.defs.rules.Def.{Def}
use Rattle.mc_flow.specs.declared.defs.rules.Rule.{Rule}
use Rattle.mc_flow.specs.Defs.Instances.{node_of, atom_of}
use Rattle.mc_flow.specs.Defs.Laws.{SatUnfolds, SegBegins}
use Rattle.mc_flow.specs.Defs.Meaning.{RuleValues}
use Rattle.mc_flow.specs.Defs.Values as named
use Rattle.mc_flow.specs.Defs.Values.{InKinds}
use Rattle.mc_state.specs.declared.graph.edge.Edge.{Edge}
use Rattle.mc_state.specs.Graph.Edges.{known_nodes, nodes_of}
use Rattle.mc_state.specs.Graph.Graph.{without}
use Rattle.mc_pure.specs.Pure.{Kinds, IsNode}
use Rattle.mc_state.specs.Bodies.{call_edge, block_edges, body_edges, calls_to, body_to}
use Rattle.mc_state.specs.BodyLaws.{BodiesAreEdges, SegBodiesAreEdges}
use Rattle.mc_state.specs.Fits.{AreNodes, IsBounded}
use Rattle.mc_state.specs.Laws.{NodesAreAdded, NodesHaveValues, AtomsAreAdded, EdgesAreTaken, EdgesArePut, NodesStayBounded, NewNodesAreThere, AtomsStayBounded, EdgesStayBounded, FewerEdgesStayBounded, PickedNodesAreThere}
use Rattle.mc_state.specs.Stands.{EdgeMeets, StandsBy, AgreeBelow, extended}
use Rattle.mc_state.specs.State.{State, numbered_nodes, with_nodes, with_edges, with_only_edges}
use Rattle.mc_rules_logic.specs.Unfold.Unfolded.{new_kinds, rule_nodes, opened}
use Rattle.mc_rules_logic.proofs.UnfoldLemmas.Lists.{all_images}
use Rattle.mc_rules_logic.proofs.UnfoldLemmas.Names.{atoms_true, numbers_count, numbers_behind, node_below, name_there, names_there, atom_there}
use Rattle.mc_state.proofs.Lists.{all_append, all_map}

-- what the rules that unfold rest on
pub record UnfoldLaws : Type 0 where
  pub commutes : SplitCommutes
  pub drops_empty : SplitDropsEmpty
  pub unfolds : SatUnfolds
  pub begins : SegBegins
  pub bodies : BodiesAreEdges
  pub seg_bodies : SegBodiesAreEdges
  pub nodes : NodesAreAdded
  pub values : NodesHaveValues
  pub atoms : AtomsAreAdded
  pub taken : EdgesAreTaken
  pub put : EdgesArePut
  pub nodes_bounded : NodesStayBounded
  pub atoms_bounded : AtomsStayBounded
  pub edges_bounded : EdgesStayBounded
  pub fewer_bounded : FewerEdgesStayBounded
  pub new_there : NewNodesAreThere
  pub picked_there : PickedNodesAreThere

-- the state without the edge
abbrev pub closed : State → EdgeId → State
closed s edge = with_only_edges s (without s.graph.edges edge)

-- nodes that are there keep their values
pub values_stay : (v w : Valuation) (s : State) (ns : List NodeId) → IsBounded s → AgreeBelow s.next v w → AreNodes s.kinds ns → map (at_node w) ns ≡ map (at_node v) ns
values_stay v w s [] bounded agree there = refl
values_stay v w s (n ∷ ns) bounded agree there =
    ap₂ (λ z zs. z ∷ zs) (agree n.0 (node_below 1 s.next s.kinds n bounded.positive bounded.kinds there.0)) (values_stay v w s ns bounded agree there.1)

module _ (laws : UnfoldLaws) (defs : List Def) (v : Valuation) (s : State) (edge : EdgeId) (at : NodeId) (args : List NodeId) (pred : PredId)
    (bounded : IsBounded s) (less : IsBounded (closed s edge)) (zero_is : v 0 ≡ pos 0) (there : AreNodes s.kinds (at ∷ args))
    (by : RuleValues defs pred (v at.0) (map (at_node v) args)) where
  -- the new nodes have the values of the rule's other names
  abbrev pub new : Valuation
  new = extended v s.next by.others

  abbrev pub nodes : List NodeId
  nodes = rule_nodes s at args by.rule

  pub agrees : AgreeBelow s.next v new
  agrees = (laws.values v s.next by.others).1

  pub new_zero : new 0 ≡ pos 0
  new_zero = agrees 0 bounded.positive ∙ zero_is

  in_kinds : InKinds (new_kinds args by.rule) by.others
  in_kinds =
      let all : InKinds by.rule.names ((v at.0 ∷ map (at_node v) args) ++ by.others) = subst (InKinds by.rule.names) by.front by.kinds in
      let behind = numbers_behind (v at.0 ∷ map (at_node v) args) by.others by.rule.names all in
      subst (λ n. InKinds (drop (suc n) by.rule.names) by.others) (length-map args (at_node v)) behind

  numbers : map (at_node new) (numbered_nodes s.next (length (new_kinds args by.rule))) ≡ by.others
  numbers =
      ap (λ n. map (at_node new) (numbered_nodes s.next n)) (numbers_count (new_kinds args by.rule) by.others in_kinds)
      ∙ (laws.values v s.next by.others).0

  -- a rule's names have the values of its nodes
  pub names_are : map (at_node new) nodes ≡ by.names
  names_are =
      ap₂ (λ z zs. z ∷ zs) (agrees at.0 (node_below 1 s.next s.kinds at bounded.positive bounded.kinds there.0))
      (map-append (at_node new) args (numbered_nodes s.next (length (new_kinds args by.rule))) ∙ ap₂ (λ xs ys. xs ++ ys) (values_stay v new s args bounded agrees there.1) numbers)
      ∙ sym by.front

  pub opened_stands : (values : List (Option ℤ)) (region part others : Region) (body : List Edge)
      → Split region part others → Star (EdgeMeets defs new) body part → StandsBy defs v values others (closed s edge)
      → StandsBy defs new values region (opened s edge at args by.rule body)
  opened_stands values region part others body split each st =
      let wider : StandsBy defs new values others (with_nodes (closed s edge) (new_kinds args by.rule)) =
      laws.nodes defs v values others (closed s edge) (new_kinds args by.rule) by.others less in_kinds st in
      let full = laws.put defs new values region part others (with_nodes (closed s edge) (new_kinds args by.rule)) body split each wider in
      laws.atoms defs new values region (with_edges (with_nodes (closed s edge) (new_kinds args by.rule)) body) (map (atom_of nodes) by.rule.atoms)
      (atoms_true new nodes new_zero by.rule.atoms (subst (λ names. AllByRecursion (named.IsTrueAtom names) by.rule.atoms) (sym names_are) by.atoms)) full

-- ---- numbers stay in their bounds

module _ (kinds : Kinds) (nodes : List NodeId) (there : AreNodes kinds nodes) where
  contents_there : (contents : List ℕ) → AreNodes kinds (known_nodes (map (λ name. Some (node_of nodes name)) contents))
  contents_there [] = tt
  contents_there (name ∷ contents) = (name_there kinds nodes name there, contents_there contents)

  abbrev pub AreThere : List Edge → Type 0
  AreThere es = AllByRecursion (λ e. AreNodes kinds (nodes_of e)) es

  block_there : (block : Option StructId) (contents : List ℕ) → AreThere (block_edges nodes block contents)
  block_there None contents = tt
  block_there (Some shape) contents = ((name_there kinds nodes 0 there, contents_there contents), tt)

  call_there : (call : Call) → AreNodes kinds (nodes_of (call_edge nodes call))
  call_there call = (name_there kinds nodes call.at there, names_there kinds nodes call.args there)

  calls_there : (calls : List Call) → AreThere (map (call_edge nodes) calls)
  calls_there calls = all_images (λ (e : Edge). AreNodes kinds (nodes_of e)) (call_edge nodes) call_there calls

  pub body_there : (block : Option StructId) (contents : List ℕ) (calls : List Call) → AreThere (body_edges nodes block contents calls)
  body_there block contents calls =
      all_append (λ (e : Edge). AreNodes kinds (nodes_of e)) (block_edges nodes block contents) (map (call_edge nodes) calls) (block_there block contents) (calls_there calls)

  module _ («end» : NodeId) (ends : List NodeId) (far : AreNodes kinds (end ∷ ends)) where
    calls_to_there : (place : ℕ) (calls : List Call) → AreThere (calls_to nodes end ends place calls)
    calls_to_there place [] = tt
    calls_to_there zero (call ∷ calls) =
        ((name_there kinds nodes call.at there, all_append (IsNode kinds) (map (node_of nodes) call.args) (end ∷ ends) (names_there kinds nodes call.args there) far), calls_there calls)
    calls_to_there (suc place) (call ∷ calls) = (call_there call, calls_to_there place calls)

    pub body_to_there : (place : ℕ) (block : Option StructId) (contents : List ℕ) (calls : List Call) → AreThere (body_to nodes end ends place block contents calls)
    body_to_there place block contents calls =
        all_append (λ (e : Edge). AreNodes kinds (nodes_of e)) (block_edges nodes block contents) (calls_to nodes end ends place calls) (block_there block contents) (calls_to_there place calls)

module _ (laws : UnfoldLaws) (s : State) (edge : EdgeId) (less : IsBounded (closed s edge)) (at : NodeId) (args : List NodeId) (there : AreNodes s.kinds (at ∷ args)) (rule : Rule) where
  abbrev pub wide : State
  wide = with_nodes (closed s edge) (new_kinds args rule)

  pub nodes_there : AreNodes wide.kinds (rule_nodes s at args rule)
  nodes_there =
      let new = laws.new_there (closed s edge) (new_kinds args rule) in
      (new.1 at there.0, all_append (IsNode wide.kinds) args (numbered_nodes s.next (length (new_kinds args rule))) (all_map (IsNode s.kinds) (IsNode wide.kinds) new.1 args there.1) new.0)

  pub opened_bounded : (body : List Edge) → AllByRecursion (λ e. AreNodes wide.kinds (nodes_of e)) body → IsBounded (opened s edge at args rule body)
  opened_bounded body fits =
      laws.atoms_bounded (with_edges wide body) (map (atom_of (rule_nodes s at args rule)) rule.atoms)
      (laws.edges_bounded wide body (laws.nodes_bounded (closed s edge) (new_kinds args rule) less) fits)
      (all_images (λ (a : Atom). AreNodes wide.kinds (nodes_of_atom a)) (atom_of (rule_nodes s at args rule)) (λ a. atom_there wide.kinds (rule_nodes s at args rule) a nodes_there) rule.atoms)
