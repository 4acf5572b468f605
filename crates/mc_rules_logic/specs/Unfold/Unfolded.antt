-- The rules that unfold an edge.
use Rattle.std.specs.Prelude.{◌≡◌, ◌==◌, ℕ, suc, List, [], ◌∷◌, ◌++◌, pos, Option, Some, drop, flat_map, length, map, slice_get, if◌then◌else◌}
use Rattle.mc_base.specs.declared.ids.EdgeId.{EdgeId}
use Rattle.mc_base.specs.declared.ids.NodeId.{NodeId}
use Rattle.mc_base.specs.declared.ids.PredId.{PredId}
use Rattle.mc_base.specs.declared.plain.Kind.{Kind}
use Rattle.mc_base.specs.declared.plain.Atom.{Atom}
use Rattle.mc_base.specs.declared.plain.Atom.TheVariants.{Eq}
use Rattle.mc_flow.specs.declared.defs.rules.Call.{Call}
use Rattle.mc_flow.specs.declared.defs.rules.Def.{Def}
use Rattle.mc_flow.specs.declared.defs.rules.Rule.{Rule}
use Rattle.mc_flow.specs.Defs.Instances.{atom_of}
use Rattle.mc_state.specs.declared.graph.edge.Edge.{Edge}
use Rattle.mc_state.specs.declared.graph.edge.Edge.TheVariants.{Ind, Seg}
use Rattle.mc_state.specs.Graph.Graph.{edge_with, without}
use Rattle.mc_state.specs.State.{State, numbered_nodes, with_nodes, with_only_edges, with_edges, with_atoms}
use Rattle.mc_state.specs.Facts.{IsFalse}
use Rattle.mc_state.specs.Bodies.{body_edges, body_to}
use Rattle.mc_state.specs.Rules.{MayUnfold}

-- the kinds of the names after `this` and the arguments
abbrev pub new_kinds : List NodeId → Rule → List Kind
new_kinds args rule = drop (suc (length args)) rule.names

-- the nodes of a rule's names: the start, the arguments, and new ones
abbrev pub rule_nodes : State → NodeId → List NodeId → Rule → List NodeId
rule_nodes s at args rule = at ∷ (args ++ numbered_nodes s.next (length (new_kinds args rule)))

-- the state with these edges in place of one, with new nodes and the atoms of the rule
abbrev pub opened : State → EdgeId → NodeId → List NodeId → Rule → List Edge → State
opened s edge at args rule body =
    with_atoms (with_edges (with_only_edges (with_nodes s (new_kinds args rule)) (without s.graph.edges edge)) body)
    (map (atom_of (rule_nodes s at args rule)) rule.atoms)

-- the state with the body of a rule in place of an Ind
abbrev pub unfolded : State → EdgeId → NodeId → List NodeId → Rule → State
unfolded s edge at args rule = opened s edge at args rule (body_edges (rule_nodes s at args rule) rule.block rule.contents rule.calls)

-- the state with the body of a rule in place of a Seg, where the call at a place goes on as the segment
abbrev pub unfolded_at : State → EdgeId → NodeId → List NodeId → NodeId → List NodeId → Rule → ℕ → State
unfolded_at s edge at args «end» ends rule place =
    opened s edge at args rule (body_to (rule_nodes s at args rule) end ends place rule.block rule.contents rule.calls)

-- the nodes of two lists are equal, one by one
abbrev pub equal_atoms : List NodeId → List NodeId → List Atom
equal_atoms [] bs = []
equal_atoms (a ∷ as') [] = []
equal_atoms (a ∷ as') (b ∷ bs) = Eq a b (pos 0) ∷ equal_atoms as' bs

-- the state in which a Seg is empty: it ends where it begins
abbrev pub emptied : State → EdgeId → NodeId → List NodeId → NodeId → List NodeId → State
emptied s edge at args «end» ends = with_atoms (with_only_edges s (without s.graph.edges edge)) (equal_atoms (at ∷ args) (end ∷ ends))

-- the places, from one on, of the calls of a predicate
abbrev pub own_places : PredId → ℕ → List Call → List ℕ
own_places pred place [] = []
own_places pred place (call ∷ calls) = if call.pred.0 == pred.0 then place
    ∷ own_places pred (suc place) calls else own_places pred (suc place) calls

-- L1: the Ind of an edge, at null or at the accessed node, is the body of one of its predicate's rules
pub record UnfoldsInd (defs : List Def) (accessed : Option NodeId) (edge : EdgeId) (s : State) (next : List State) : Type 0 where
  pub consistent : IsFalse s → ⊥
  pub at : NodeId
  pub pred : PredId
  pub args : List NodeId
  pub there : edge_with s.graph.edges edge ≡ Some (Ind at pred args)
  pub may : MayUnfold s accessed at
  pub def : Def
  pub defined : slice_get defs pred.0 ≡ Some def
  pub gives : next ≡ map (unfolded s edge at args) def.rules

-- L2: the Seg of an edge, at null or at the accessed node, is empty, or the body of one of its predicate's rules
-- of which one call of the predicate goes on as the segment
pub record UnfoldsSeg (defs : List Def) (accessed : Option NodeId) (edge : EdgeId) (s : State) (next : List State) : Type 0 where
  pub consistent : IsFalse s → ⊥
  pub at : NodeId
  pub args : List NodeId
  pub pred : PredId
  pub stop : NodeId
  pub ends : List NodeId
  pub there : edge_with s.graph.edges edge ≡ Some (Seg at args pred stop ends)
  pub may : MayUnfold s accessed at
  pub def : Def
  pub defined : slice_get defs pred.0 ≡ Some def
  pub gives : next ≡ emptied s edge at args stop ends
      ∷ flat_map (λ rule. map (unfolded_at s edge at args stop ends rule) (own_places pred 0 rule.calls)) def.rules
