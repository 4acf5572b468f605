-- Rules that look like the rules that fold and drop, and are not sound.
use Rattle.std.specs.Prelude.{◌≡◌, List, [], ◌∷◌, ◌++◌, Some, length, option_to_list, slice_get}
use Rattle.std.specs.List.{AllByRecursion}
use Rattle.mc_base.specs.declared.ids.EdgeId.{EdgeId}
use Rattle.mc_base.specs.declared.ids.NodeId.{NodeId}
use Rattle.mc_base.specs.declared.ids.PredId.{PredId}
use Rattle.mc_flow.specs.declared.defs.rules.Def.{Def}
use Rattle.mc_flow.specs.declared.defs.rules.Rule.{Rule}
use Rattle.mc_flow.specs.Defs.Instances.{atom_of}
use Rattle.mc_state.specs.declared.graph.edge.Edge.{Edge}
use Rattle.mc_state.specs.declared.graph.edge.Edge.TheVariants.{Ind, Seg}
use Rattle.mc_state.specs.Graph.Graph.{Edges, Picks, edge_with, without}
use Rattle.mc_state.specs.Facts.{IsFalse, Derives, AreEqual}
use Rattle.mc_state.specs.Fits.{IsBounded, HaveKinds}
use Rattle.mc_state.specs.Rules.{IsSound}
use Rattle.mc_state.specs.declared.line.FoldInd.{FoldInd}
use Rattle.mc_state.specs.State.{State}
use Rattle.mc_rules_logic.specs.Fold.Folded.{folded, BlocksMatch, CallsMatch}
use Rattle.mc_rules_logic.specs.Fold.Changed.{DropsEdge}

-- the edges that ids name, which need not be distinct
abbrev pub AreNamed : List EdgeId → Edges → List Edge → Type 0
AreNamed [] es [] = Unit {0}
AreNamed (id ∷ ids) es (e ∷ named) = (edge_with es id ≡ Some e) × AreNamed ids es named
AreNamed [] es (e ∷ named) = ⊥
AreNamed (id ∷ ids) es [] = ⊥

-- the edges without those with these ids
abbrev pub without_all : Edges → List EdgeId → Edges
without_all es [] = es
without_all es (id ∷ ids) = without_all (without es id) ids

-- L3 in which the named edges need not be distinct
pub record FoldsShared (defs : List Def) (fold : FoldInd) (s : State) (next : List State) : Type 0 where
  pub consistent : IsFalse s → ⊥
  pub blocks : List Edge
  pub inds : List Edge
  pub named : AreNamed (option_to_list fold.block ++ fold.edges) s.graph.edges (blocks ++ inds)
  pub one_each : length inds ≡ length fold.edges
  pub def : Def
  pub defined : slice_get defs fold.pred.0 ≡ Some def
  pub by : Rule
  pub listed : slice_get def.rules fold.rule ≡ Some by
  pub kinds : HaveKinds s.kinds by.names fold.names
  pub this : NodeId
  pub args : List NodeId
  pub others : List NodeId
  pub front : fold.names ≡ this ∷ (args ++ others)
  pub count : length args ≡ length def.params
  pub block_fits : BlocksMatch s fold.names by.block by.contents blocks
  pub calls_fit : CallsMatch s fold.names by.calls inds
  pub atoms : AllByRecursion (λ a. Derives s (atom_of fold.names a)) by.atoms
  pub gives : next ≡ folded s (without_all s.graph.edges (option_to_list fold.block ++ fold.edges)) (Ind this fold.pred args) ∷ []

-- what the law of L3 would say of it
abbrev pub SharedFoldIsSound : Type 0
SharedFoldIsSound =
    (defs : List Def) (fold : FoldInd) (s : State) (next : List State)
    → IsBounded s → FoldsShared defs fold s next → IsSound defs s next

-- L5 in which the arguments at the Seg's end need not be those of the Ind
pub record ClosesAnyArgs (first second : EdgeId) (s : State) (next : List State) : Type 0 where
  pub consistent : IsFalse s → ⊥
  pub at : NodeId
  pub args : List NodeId
  pub pred : PredId
  pub stop : NodeId
  pub ends : List NodeId
  pub from : NodeId
  pub from_args : List NodeId
  pub left : Edges
  pub picks : Picks (first ∷ second ∷ []) s.graph.edges (Seg at args pred stop ends ∷ Ind from pred from_args ∷ []) left
  pub meet : AreEqual s stop from
  pub gives : next ≡ folded s left (Ind at pred args) ∷ []

-- what the law of L5 would say of it
abbrev pub ClosingAnyArgsIsSound : Type 0
ClosingAnyArgsIsSound = (defs : List Def) (first second : EdgeId) (s : State) (next : List State) → IsBounded s
    → ClosesAnyArgs first second s next → IsSound defs s next

-- L10 that leaves the state whole where it was
abbrev pub DropsAndKeepsWhole : EdgeId → State → List State → Type 0
DropsAndKeepsWhole edge s next = (after : State) × DropsEdge edge s (after ∷ []) × (next ≡ record after { whole = s.whole } ∷ [])

-- what the law of L10 would say of it
abbrev pub DroppingKeepsWhole : Type 0
DroppingKeepsWhole = (defs : List Def) (edge : EdgeId) (s : State) (next : List State) → IsBounded s
    → DropsAndKeepsWhole edge s next → IsSound defs s next
