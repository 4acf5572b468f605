-- How the state of a side branch grows, and what ends the branch.
use Rattle.std.specs.Prelude.{◌≡◌, ◌-ℤ◌, ℤ, List, [], ◌∷◌, Some, Contains, map}
use Rattle.mc_base.specs.declared.ids.EdgeId.{EdgeId}
use Rattle.mc_base.specs.declared.ids.NodeId.{NodeId}
use Rattle.mc_base.specs.declared.ids.PredId.{PredId}
use Rattle.mc_base.specs.declared.plain.Atom.{Atom}
use Rattle.mc_base.specs.declared.plain.Atom.TheVariants.{Eq}
use Rattle.mc_base.specs.declared.plain.Kind.{Kind}
use Rattle.mc_flow.specs.declared.defs.rules.Def.{Def}
use Rattle.mc_state.specs.declared.graph.edge.Edge.TheVariants.{Ind}
use Rattle.mc_state.specs.Graph.Graph.{edge_with}
use Rattle.mc_pure.specs.Derived.{Follows}
use Rattle.mc_pure.specs.Pure.{HasKind}
use Rattle.mc_state.specs.declared.goal.Goal.{Goal}
use Rattle.mc_state.specs.declared.terms.Term.{Term}
use Rattle.mc_state.specs.Facts.{IsFalse}
use Rattle.mc_state.specs.declared.line.FoldInd.{FoldInd}
use Rattle.mc_state.specs.State.{State, pure_of}
use Rattle.mc_state.specs.Terms.{plain}
use Rattle.mc_rules_logic.specs.Fold.Changed.{NamesSpare, ForgetsNode, alone}
use Rattle.mc_rules_logic.specs.Fold.Folded.{FoldsInd, ClosesSeg}
use Rattle.mc_rules_logic.specs.Fold.Goals.{MeetsGoal}

-- ---- what is written

-- the atom follows of the kinds and of what is written, whatever blocks there are
abbrev pub Written : State → Atom → Type 0
Written s f = Follows (alone s) f

-- the terms are equal by what is written
abbrev pub AreSameTerms : State → Term → Term → Type 0
AreSameTerms s t u = Written s (Eq t.node u.node (u.add -ℤ t.add))

-- the terms of two lists are, one by one
abbrev pub AreAllSameTerms : State → List Term → List Term → Type 0
AreAllSameTerms s [] [] = Unit {0}
AreAllSameTerms s (t ∷ ts) (u ∷ us) = AreSameTerms s t u × AreAllSameTerms s ts us
AreAllSameTerms s [] (u ∷ us) = ⊥
AreAllSameTerms s (t ∷ ts) [] = ⊥

-- the node is of the kind, and has the term's value
abbrev pub IsNamed : State → Kind → Term → NodeId → Type 0
IsNamed s kind t n = HasKind s.kinds kind n × Written s (Eq n t.node t.add)

-- one node for each term
abbrev pub AreNamed : State → List Kind → List Term → List NodeId → Type 0
AreNamed s [] [] [] = Unit {0}
AreNamed s (kind ∷ kinds) (t ∷ ts) (n ∷ ns) = IsNamed s kind t n × AreNamed s kinds ts ns
AreNamed s kinds ts ns = ⊥

-- an Ind of the state makes a predicate at a term with arguments
pub record IsMadeBy (s : State) (pred : PredId) (at : Term) (args : List Term) (id : EdgeId) : Type 0 where
  pub node : NodeId
  pub nodes : List NodeId
  pub there : edge_with s.graph.edges id ≡ Some (Ind node pred nodes)
  pub same_at : AreSameTerms s at (plain node)
  pub same_args : AreAllSameTerms s args (map plain nodes)

-- a state in which nodes keep their kinds, and what is written stays
pub record IsGrown (s t : State) : Type 0 where
  pub kinds : (kind : Kind) (n : NodeId) → HasKind s.kinds kind n → HasKind t.kinds kind n
  pub written : (f : Atom) → Written s f → Written t f

-- a state in which nodes keep their kinds, and all that followed before is written
pub record IsLater (before s : State) : Type 0 where
  pub kinds : (kind : Kind) (n : NodeId) → HasKind before.kinds kind n → HasKind s.kinds kind n
  pub known : (f : Atom) → Follows (pure_of before) f → Written s f

-- ---- how a side branch ends

-- a line of a side branch with a goal: a node is named, a rule is folded, a segment is closed, or a node that the goal
-- does not name is forgotten
pub data Turns (defs : List Def) (goal : Goal) (s t : State) : Type 0 where
  names : (node : NodeId) (add : ℤ) (kind : Kind) → NamesSpare node add kind s (t ∷ []) → Turns defs goal s t
  folds : (fold : FoldInd) → FoldsInd defs fold s (t ∷ []) → Turns defs goal s t
  closes : (first second : EdgeId) → ClosesSeg first second s (t ∷ []) → Turns defs goal s t
  forgets : (node : NodeId) → (Contains (goal.at ∷ goal.args) node → ⊥) → ForgetsNode node s (t ∷ []) → Turns defs goal s t

-- such lines lead to a state that is false, or in which an Ind meets the goal
pub data CanEnd (defs : List Def) (goal : Goal) : State → Type 0 where
  as_false : {s : State} → IsFalse s → CanEnd defs goal s
  as_met : {s : State} (edge : EdgeId) → MeetsGoal goal edge s → CanEnd defs goal s
  behind : {s : State} (t : State) → Turns defs goal s t → CanEnd defs goal t → CanEnd defs goal s
