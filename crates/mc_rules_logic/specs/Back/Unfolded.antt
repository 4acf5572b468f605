-- The rule that unfolds a segment from its end.
use Rattle.std.specs.Prelude.{◌≡◌, ℕ, List, [], ◌∷◌, ◌++◌, Option, Some, None, drop, flat_map, length, map, remove, slice_get, take}
use Rattle.mc_base.specs.declared.ids.EdgeId.{EdgeId}
use Rattle.mc_base.specs.declared.ids.NodeId.{NodeId}
use Rattle.mc_base.specs.declared.ids.PredId.{PredId}
use Rattle.mc_base.specs.declared.plain.Atom.{Atom}
use Rattle.mc_flow.specs.declared.defs.rules.Call.{Call}
use Rattle.mc_flow.specs.declared.defs.rules.Def.{Def}
use Rattle.mc_flow.specs.declared.defs.rules.Rule.{Rule}
use Rattle.mc_flow.specs.Defs.Instances.{node_of, atom_of}
use Rattle.mc_state.specs.declared.graph.edge.Edge.{Edge}
use Rattle.mc_state.specs.declared.graph.edge.Edge.TheVariants.{Seg}
use Rattle.mc_state.specs.Graph.Graph.{edge_with, without}
use Rattle.mc_state.specs.Back.{IsBackPosition}
use Rattle.mc_state.specs.Bodies.{body_edges}
use Rattle.mc_state.specs.Facts.{IsFalse, AreEqual}
use Rattle.mc_state.specs.State.{State, numbered_nodes, with_nodes, with_only_edges, with_edges, with_atoms}
use Rattle.mc_rules_logic.specs.Unfold.Unfolded.{equal_atoms, emptied, own_places}

-- the nodes of a rule's names, all of them new
abbrev pub new_nodes : State → Rule → List NodeId
new_nodes s rule = numbered_nodes s.next (length rule.names)

-- a segment to the start of a rule's body and its parameters, and that body without the call at a place
abbrev pub body_behind : NodeId → List NodeId → PredId → List NodeId → Rule → ℕ → List Edge
body_behind at args pred nodes rule place =
    Seg at args pred (node_of nodes 0) (take (length args) (drop 1 nodes))
    ∷ body_edges nodes rule.block rule.contents (remove rule.calls place)

-- the call is the end: its node and its arguments are equal to these
abbrev pub call_is_end : List NodeId → NodeId → List NodeId → Option Call → List Atom
call_is_end nodes stop ends None = []
call_is_end nodes stop ends (Some call) =
    equal_atoms (node_of nodes call.at ∷ map (node_of nodes) call.args) (stop ∷ ends)

-- a rule's atoms, and that its call at a place is the end
abbrev pub atoms_behind : List NodeId → NodeId → List NodeId → Rule → ℕ → List Atom
atoms_behind nodes stop ends rule place =
    map (atom_of nodes) rule.atoms ++ call_is_end nodes stop ends (slice_get rule.calls place)

-- the state with a segment and the body of a rule in place of a Seg, where the call at a place is the Seg's end
abbrev pub unfolded_back : State → EdgeId → NodeId → List NodeId → PredId → NodeId → List NodeId → Rule → ℕ → State
unfolded_back s edge at args pred stop ends rule place =
    with_atoms
    (with_edges (with_only_edges (with_nodes s rule.names) (without s.graph.edges edge))
    (body_behind at args pred (new_nodes s rule) rule place))
    (atoms_behind (new_nodes s rule) stop ends rule place)

-- what a Seg becomes: nothing, or for each rule and each of its calls of the predicate a segment and the rule's body
abbrev pub back_successors : State → EdgeId → NodeId → List NodeId → PredId → NodeId → List NodeId → List Rule → List State
back_successors s edge at args pred stop ends rules =
    emptied s edge at args stop ends
    ∷ flat_map (λ rule. map (unfolded_back s edge at args pred stop ends rule) (own_places pred 0 rule.calls)) rules

-- L15: the Seg of an edge, of whose end arguments one at a back position is equal to the accessed node, is empty, or
-- ends with the body of one of its predicate's rules, of which one call of the predicate is the Seg's end
pub record UnfoldsBack (defs : List Def) (accessed : Option NodeId) (edge : EdgeId) (s : State) (next : List State) : Type 0 where
  pub consistent : IsFalse s → ⊥
  pub at : NodeId
  pub args : List NodeId
  pub pred : PredId
  pub stop : NodeId
  pub ends : List NodeId
  pub there : edge_with s.graph.edges edge ≡ Some (Seg at args pred stop ends)
  pub node : NodeId
  pub accesses : accessed ≡ Some node
  pub position : ℕ
  pub back : IsBackPosition defs pred position
  pub last : NodeId
  pub ends_at : slice_get ends position ≡ Some last
  pub meets : AreEqual s last node
  pub gives : next ≡ back_successors s edge at args pred stop ends back.def.rules
