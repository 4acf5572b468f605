-- The parts of a state that a document writes, and how they fit.
use Rattle.std.specs.Prelude.{◌≡◌, ℕ, List, [], ◌∷◌, Option, Some, None, true, length, map, replicate, slice_get}
use Rattle.mc_base.specs.declared.ids.NodeId.{NodeId}
use Rattle.mc_base.specs.declared.ids.StructId.{StructId}
use Rattle.mc_base.specs.declared.plain.Atom.{Atom}
use Rattle.mc_base.specs.declared.plain.Kind.{Kind}
use Rattle.mc_base.specs.declared.plain.Kind.TheVariants as kind
use Rattle.mc_base.specs.declared.plain.VarInfo.{VarInfo}
use Rattle.mc_flow.specs.declared.defs.rules.Def.{Def}
use Rattle.mc_flow.specs.declared.defs.rules.Rule.{Rule}
use Rattle.mc_flow.specs.declared.defs.shapes.StructInfo.{StructInfo}
use Rattle.mc_state.specs.declared.graph.edge.Edge.{Edge}
use Rattle.mc_state.specs.Graph.Edges.{nodes_of}
use Rattle.mc_state.specs.Graph.Graph.{no_edges}
use Rattle.mc_pure.specs.Pure.{Kinds, IsWellFormed}
use Rattle.mc_state.specs.declared.raw_state.NodeKind.{NodeKind}
use Rattle.mc_state.specs.declared.raw_state.NodeKind.TheVariants.{Zero, Int, Ptr}
use Rattle.mc_state.specs.declared.raw_state.RawState.{RawState}
use Rattle.mc_state.specs.State.{State, with_nodes, with_atoms, with_edges}
use Rattle.mc_state.specs.Fits.{AreNodes, MayHaveKinds, EdgeFitsDefs, EdgeFitsStructs}
use Rattle.mc_state.specs.RawStates.{kinds_from, state_of, IsWellFormedRaw}

-- the state that is written, where it is well formed, and nothing where it is not
abbrev pub Writes : List Def → List VarInfo → List StructInfo → RawState → Option State → Type 0
Writes defs vars structs raw None = IsWellFormedRaw defs vars structs raw → ⊥
Writes defs vars structs raw (Some s) = IsWellFormedRaw defs vars structs raw × (s ≡ state_of raw)

-- nodes of these kinds alone, from node 0 on, and variables of which none is known
abbrev pub begun : ℕ → List NodeKind → State
begun vars kinds =
    record {
      env = replicate vars None;
      kinds = kinds_from 0 kinds;
      graph = no_edges;
      atoms = [];
      next = length kinds;
      whole = true;
    }

-- a rule of the struct has as many contents as there are fields
abbrev pub RuleFits : Rule → StructId → ℕ → Type 0
RuleFits rule shape fields = rule.block ≡ Some shape → fields ≡ length rule.contents

-- each rule of a predicate does
abbrev pub RulesFit : Def → StructId → ℕ → Type 0
RulesFit def shape fields = (r : ℕ) (rule : Rule) → slice_get def.rules r ≡ Some rule → RuleFits rule shape fields

-- each rule of each predicate does
abbrev pub ContentsFit : List Def → StructId → ℕ → Type 0
ContentsFit defs shape fields = (p : ℕ) (def : Def) → slice_get defs p ≡ Some def → RulesFit def shape fields

-- an edge fits definitions and structs
abbrev pub EdgeFits : List Def → List StructInfo → Kinds → Edge → Type 0
EdgeFits defs structs kinds e = EdgeFitsDefs defs kinds e × EdgeFitsStructs structs kinds e

-- each edge does
abbrev pub AllEdgesFit : List Def → List StructInfo → Kinds → List Edge → Type 0
AllEdgesFit defs structs kinds es = (place : ℕ) (e : Edge) → slice_get es place ≡ Some e → EdgeFits defs structs kinds e

-- each atom may be written
abbrev pub AllAtomsFit : Kinds → List Atom → Type 0
AllAtomsFit kinds atoms = (place : ℕ) (a : Atom) → slice_get atoms place ≡ Some a → IsWellFormed kinds a

-- a node more of the kind; none where it is that of node 0
abbrev pub AddsKind : NodeKind → State → State → Type 0
AddsKind Zero s t = t ≡ s
AddsKind Int s t = t ≡ with_nodes s (kind.Int ∷ [])
AddsKind Ptr s t = t ≡ with_nodes s (kind.Ptr ∷ [])

-- the nodes of each edge are there
abbrev pub AllAreThere : Kinds → List Edge → Type 0
AllAreThere kinds es = (place : ℕ) (e : Edge) → slice_get es place ≡ Some e → AreNodes kinds (nodes_of e)

-- variables, edges and atoms fit nodes of these kinds
pub record PiecesFit (defs : List Def) (vars : List VarInfo) (structs : List StructInfo) (kinds : Kinds)
    (raw : RawState) : Type 0 where
  pub vars_fit : MayHaveKinds kinds (map (λ x. x.kind) vars) raw.vars
  pub edges_fit : AllEdgesFit defs structs kinds raw.edges
  pub atoms_fit : AllAtomsFit kinds raw.atoms

-- the state with the variables, edges, atoms and flag that are written
abbrev pub filled : State → RawState → State
filled s raw = record (with_atoms (with_edges (record s { env = raw.vars }) raw.edges) raw.atoms) { whole = raw.whole }
