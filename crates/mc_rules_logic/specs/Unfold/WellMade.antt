-- States stay well made where rules change them.
use Rattle.std.specs.Prelude.{◌≡◌, ℕ, List, Option, Some, map, slice_get}
use Rattle.std.specs.List.{AllByRecursion}
use Rattle.mc_base.specs.declared.ids.EdgeId.{EdgeId}
use Rattle.mc_base.specs.declared.ids.NodeId.{NodeId}
use Rattle.mc_base.specs.declared.ids.PredId.{PredId}
use Rattle.mc_base.specs.declared.plain.Atom.{Atom}
use Rattle.mc_base.specs.declared.plain.Kind.{Kind}
use Rattle.mc_base.specs.declared.plain.VarInfo.{VarInfo}
use Rattle.mc_flow.specs.declared.defs.rules.Def.{Def}
use Rattle.mc_flow.specs.declared.defs.rules.Rule.{Rule}
use Rattle.mc_flow.specs.declared.defs.shapes.StructInfo.{StructInfo}
use Rattle.mc_flow.specs.Defs.Conditions.{DefsFit}
use Rattle.mc_flow.specs.Defs.Instances.{atom_of}
use Rattle.mc_state.specs.declared.graph.edge.Edge.{Edge}
use Rattle.mc_state.specs.declared.graph.edge.Edge.TheVariants.{Seg}
use Rattle.mc_state.specs.Graph.Graph.{edge_with, without}
use Rattle.mc_pure.specs.Pure.{Kinds, IsWellFormed}
use Rattle.mc_state.specs.Bodies.{call_edge, block_edges}
use Rattle.mc_state.specs.Fits.{HaveKinds, EdgeFitsDefs, EdgeFitsStructs, FitsDefs, IsWellMade}
use Rattle.mc_state.specs.State.{State, with_nodes, with_edges, with_only_edges, with_atoms}
use Rattle.mc_rules_logic.specs.Unfold.Unfolded.{UnfoldsInd, UnfoldsSeg, equal_atoms, emptied}

-- an edge fits definitions and structs
abbrev pub EdgeFits : List Def → List StructInfo → Kinds → Edge → Type 0
EdgeFits defs structs kinds e = EdgeFitsDefs defs kinds e × EdgeFitsStructs structs kinds e

-- a state that gets new nodes stays well made
abbrev pub NodesKeepWellMade : Type 0
NodesKeepWellMade =
    (defs : List Def) (vars : List VarInfo) (structs : List StructInfo) (s : State) (kinds : List Kind)
    → IsWellMade defs vars structs s → IsWellMade defs vars structs (with_nodes s kinds)

-- so does one that gets edges that fit
abbrev pub EdgesKeepWellMade : Type 0
EdgesKeepWellMade =
    (defs : List Def) (vars : List VarInfo) (structs : List StructInfo) (s : State) (new : List Edge)
    → AllByRecursion (EdgeFits defs structs s.kinds) new
    → IsWellMade defs vars structs s → IsWellMade defs vars structs (with_edges s new)

-- and one that gets atoms that are well formed
abbrev pub AtomsKeepWellMade : Type 0
AtomsKeepWellMade =
    (defs : List Def) (vars : List VarInfo) (structs : List StructInfo) (s : State) (atoms : List Atom)
    → AllByRecursion (IsWellFormed s.kinds) atoms
    → IsWellMade defs vars structs s → IsWellMade defs vars structs (with_atoms s atoms)

-- and one that loses an edge
abbrev pub FewerKeepWellMade : Type 0
FewerKeepWellMade =
    (defs : List Def) (vars : List VarInfo) (structs : List StructInfo) (s : State) (edge : EdgeId) (e : Edge)
    → edge_with s.graph.edges edge ≡ Some e
    → IsWellMade defs vars structs s → IsWellMade defs vars structs (with_only_edges s (without s.graph.edges edge))

-- an edge that is there fits the definitions where the state does
abbrev pub EdgeOfFitting : Type 0
EdgeOfFitting =
    (defs : List Def) (s : State) (edge : EdgeId) (e : Edge)
    → edge_with s.graph.edges edge ≡ Some e → FitsDefs defs s → EdgeFitsDefs defs s.kinds e

-- at nodes of the kinds of a rule's names, its block and its calls fit, and its atoms are well formed
pub record RuleIsMade (defs : List Def) (structs : List StructInfo) (kinds : Kinds) (nodes : List NodeId) (rule : Rule) : Type 0 where
  pub block : AllByRecursion (EdgeFits defs structs kinds) (block_edges nodes rule.block rule.contents)
  pub calls : AllByRecursion (λ call. EdgeFitsDefs defs kinds (call_edge nodes call)) rule.calls
  pub atoms : AllByRecursion (IsWellFormed kinds) (map (atom_of nodes) rule.atoms)

-- every rule of definitions that fit is made so
abbrev pub RulesAreMade : Type 0
RulesAreMade =
    (defs : List Def) (structs : List StructInfo) (def : Def) (rule : Rule) (p r : ℕ)
    (kinds : Kinds) (nodes : List NodeId)
    → DefsFit structs defs → slice_get defs p ≡ Some def → slice_get def.rules r ≡ Some rule
    → HaveKinds kinds rule.names nodes → RuleIsMade defs structs kinds nodes rule

-- nodes of the same kinds may be written equal, one by one
abbrev pub EqualsAreFormed : Type 0
EqualsAreFormed =
    (kinds : Kinds) (params : List Kind) (as' bs : List NodeId)
    → HaveKinds kinds params as' → HaveKinds kinds params bs → AllByRecursion (IsWellFormed kinds) (equal_atoms as' bs)

-- a Seg that is taken to be empty leaves a well-made state
abbrev pub EmptiedIsWellMade : Type 0
EmptiedIsWellMade =
    (defs : List Def) (vars : List VarInfo) (structs : List StructInfo) (s : State) (edge : EdgeId)
    (at : NodeId) (args : List NodeId) (pred : PredId) (stop : NodeId) (ends : List NodeId)
    → edge_with s.graph.edges edge ≡ Some (Seg at args pred stop ends)
    → IsWellMade defs vars structs s → IsWellMade defs vars structs (emptied s edge at args stop ends)

-- what L1 makes is well made where the state is
abbrev pub IndMakesWellMade : Type 0
IndMakesWellMade =
    (defs : List Def) (vars : List VarInfo) (structs : List StructInfo) (accessed : Option NodeId) (edge : EdgeId)
    (s : State) (next : List State)
    → DefsFit structs defs → IsWellMade defs vars structs s → UnfoldsInd defs accessed edge s next
    → AllByRecursion (IsWellMade defs vars structs) next

-- what L2 makes is well made where the state is
abbrev pub SegMakesWellMade : Type 0
SegMakesWellMade =
    (defs : List Def) (vars : List VarInfo) (structs : List StructInfo) (accessed : Option NodeId) (edge : EdgeId)
    (s : State) (next : List State)
    → DefsFit structs defs → IsWellMade defs vars structs s → UnfoldsSeg defs accessed edge s next
    → AllByRecursion (IsWellMade defs vars structs) next
