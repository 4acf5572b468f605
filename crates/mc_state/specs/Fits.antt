-- States that are well made.
use Rattle.std.specs.Prelude.{◌≡◌, ◌<◌, ℕ, suc, List, [], ◌∷◌, Option, Some, None, length, map, slice_get}
use Rattle.std.specs.List.{AllByRecursion}
use Rattle.mc_base.specs.declared.ids.NodeId.{NodeId}
use Rattle.mc_base.specs.declared.ids.PredId.{PredId}
use Rattle.mc_base.specs.declared.plain.Kind.{Kind}
use Rattle.mc_base.specs.declared.plain.Kind.TheVariants.{Ptr}
use Rattle.mc_base.specs.declared.plain.VarInfo.{VarInfo}
use Rattle.mc_base.specs.Atoms.{nodes_of_atom}
use Rattle.mc_flow.specs.declared.defs.rules.Def.{Def}
use Rattle.mc_flow.specs.declared.defs.rules.Rule.{Rule}
use Rattle.mc_flow.specs.declared.defs.shapes.StructInfo.{StructInfo}
use Rattle.mc_state.specs.declared.graph.edge.Edge.{Edge}
use Rattle.mc_state.specs.declared.graph.edge.Edge.TheVariants.{Block, Ind, Seg}
use Rattle.mc_state.specs.Graph.Edges.{known_nodes, nodes_of}
use Rattle.mc_state.specs.Graph.Graph.{IdsAscend}
use Rattle.mc_pure.specs.Pure.{Kinds, HasKind, IsNode, IsWellFormed}
use Rattle.mc_state.specs.State.{State}

-- numbers of nodes ascend from one on, and stay below another
abbrev pub NodesAscend : ℕ → Kinds → ℕ → Type 0
NodesAscend low [] high = Unit {0}
NodesAscend low (k ∷ kinds) high = (low < suc k.0.0) × (k.0.0 < high) × NodesAscend (suc k.0.0) kinds high

-- the nodes are all there
abbrev pub AreNodes : Kinds → List NodeId → Type 0
AreNodes kinds ns = AllByRecursion (IsNode kinds) ns

-- nodes from 1 on and edges ascend below the next numbers, and all nodes that the state names are there
pub record IsBounded (s : State) : Type 0 where
  pub positive : 0 < s.next
  pub kinds : NodesAscend 1 s.kinds s.next
  pub ids : IdsAscend 0 s.graph.edges s.graph.next
  pub vars : AreNodes s.kinds (known_nodes s.env)
  pub edges : AllByRecursion (λ e. AreNodes s.kinds (nodes_of e.1)) s.graph.edges
  pub atoms : AllByRecursion (λ a. AreNodes s.kinds (nodes_of_atom a)) s.atoms

-- one node for each kind, of that kind
abbrev pub HaveKinds : Kinds → List Kind → List NodeId → Type 0
HaveKinds kinds [] [] = Unit {0}
HaveKinds kinds (kind ∷ ks) (n ∷ ns) = HasKind kinds kind n × HaveKinds kinds ks ns
HaveKinds kinds [] (n ∷ ns) = ⊥
HaveKinds kinds (kind ∷ ks) [] = ⊥

-- the same where some nodes are unknown
abbrev pub MayHaveKind : Kinds → Kind → Option NodeId → Type 0
MayHaveKind kinds kind None = Unit {0}
MayHaveKind kinds kind (Some n) = HasKind kinds kind n

-- one entry for each kind, unknown or of that kind
abbrev pub MayHaveKinds : Kinds → List Kind → List (Option NodeId) → Type 0
MayHaveKinds kinds [] [] = Unit {0}
MayHaveKinds kinds (kind ∷ ks) (n ∷ ns) = MayHaveKind kinds kind n × MayHaveKinds kinds ks ns
MayHaveKinds kinds [] (n ∷ ns) = ⊥
MayHaveKinds kinds (kind ∷ ks) [] = ⊥

-- the arguments of a predicate of the list, each of its parameter's kind
abbrev pub ArgsFit : List Def → Kinds → PredId → List NodeId → Type 0
ArgsFit defs kinds pred args = (def : Def) × (slice_get defs pred.0 ≡ Some def) × HaveKinds kinds def.params args

-- an edge fits definitions: starts and ends are pointers, arguments fit, and a block has a field for each content of a rule of its struct
abbrev pub EdgeFitsDefs : List Def → Kinds → Edge → Type 0
EdgeFitsDefs defs kinds (Block at shape fields) =
    HasKind kinds Ptr at
    × ((p r : ℕ) (def : Def) (rule : Rule) → slice_get defs p ≡ Some def → slice_get def.rules r ≡ Some rule
    → rule.block ≡ Some shape → length fields ≡ length rule.contents)
EdgeFitsDefs defs kinds (Ind at pred args) = HasKind kinds Ptr at × ArgsFit defs kinds pred args
EdgeFitsDefs defs kinds (Seg at args pred «end» ends) =
    HasKind kinds Ptr at × ArgsFit defs kinds pred args × HasKind kinds Ptr end × ArgsFit defs kinds pred ends

-- every edge of the state fits the definitions
abbrev pub FitsDefs : List Def → State → Type 0
FitsDefs defs s = AllByRecursion (λ e. EdgeFitsDefs defs s.kinds e.1) s.graph.edges

-- an edge fits structs: a block is of a struct of the list, with an entry for each field, unknown or of the field's kind
abbrev pub EdgeFitsStructs : List StructInfo → Kinds → Edge → Type 0
EdgeFitsStructs structs kinds (Block at shape fields) =
    (info : StructInfo) × (slice_get structs shape.0 ≡ Some info) × MayHaveKinds kinds (map (λ f. f.kind) info.fields) fields
EdgeFitsStructs structs kinds (Ind at pred args) = Unit {0}
EdgeFitsStructs structs kinds (Seg at args pred «end» ends) = Unit {0}

-- the state fits variables and structs: an entry for each variable, unknown or of its kind, and blocks that fit
pub record FitsProgram (vars : List VarInfo) (structs : List StructInfo) (s : State) : Type 0 where
  pub vars_fit : MayHaveKinds s.kinds (map (λ x. x.kind) vars) s.env
  pub blocks_fit : AllByRecursion (λ e. EdgeFitsStructs structs s.kinds e.1) s.graph.edges

-- a well-made state: numbers in their bounds, atoms that may be written, and a fit for definitions, variables and structs
pub record IsWellMade (defs : List Def) (vars : List VarInfo) (structs : List StructInfo) (s : State) : Type 0 where
  pub bounded : IsBounded s
  pub atoms : AllByRecursion (IsWellFormed s.kinds) s.atoms
  pub fits_defs : FitsDefs defs s
  pub fits_program : FitsProgram vars structs s
