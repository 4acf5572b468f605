-- What rules put into states is there.
use Rattle.std.proofs.Common.{◌≡◌, ◌∙◌, ℕ, zero, suc, List, [], ◌∷◌, Bool, Option, Some, None, refl, sym, subst, ap}
use Rattle.std.specs.Prelude.{option_and_then, option_map, replicate}
use Rattle.std.specs.List.{AllByRecursion, find}
use Rattle.mc_base.specs.declared.ids.EdgeId.{EdgeId}
use Rattle.mc_base.specs.declared.ids.NodeId.{NodeId}
use Rattle.mc_base.specs.declared.ids.StructId.{StructId}
use Rattle.mc_base.specs.declared.plain.Atom.{Atom}
use Rattle.mc_base.specs.declared.plain.Kind.{Kind}
use Rattle.mc_base.specs.declared.plain.Kind.TheVariants.{Ptr}
use Rattle.mc_base.specs.declared.plain.VarInfo.{VarInfo}
use Rattle.mc_flow.specs.declared.defs.rules.Def.{Def}
use Rattle.mc_flow.specs.declared.defs.shapes.StructInfo.{StructInfo}
use Rattle.mc_flow.specs.declared.instr.Operand.{Operand}
use Rattle.mc_flow.specs.Valid.{IsOperand}
use Rattle.mc_state.specs.declared.graph.edge.Edge.{Edge}
use Rattle.mc_state.specs.declared.graph.edge.Edge.TheVariants.{Block}
use Rattle.mc_state.specs.Graph.Edges.{known_nodes, nodes_of, start_of}
use Rattle.mc_state.specs.Graph.Graph.{Edges, block_starts, edge_with, without}
use Rattle.mc_pure.specs.Pure.{HasKind, IsNode, IsWellFormed, Kinds}
use Rattle.mc_state.specs.Fits.{AreNodes, IsBounded, IsWellMade}
use Rattle.mc_state.specs.Laws.{NewNodesHaveKinds}
use Rattle.mc_state.specs.State.{State, next_node, with_edges, with_nodes, with_only_edges}
use Rattle.mc_rules_steps.specs.Fitting.{FoundEdgesAreThere, FoundFieldsAreThere, FreedMayBeWritten, HasOperand, OperandFits}
use Rattle.mc_rules_steps.specs.Judges.{known_field}
use Rattle.mc_rules_steps.specs.Steps.{freed_atoms}
use Rattle.mc_apply_steps.specs.Step.Values.{IsRead, value_node, with_value}

-- a value that was read can be put
pub value_fits : OperandFits → (defs : List Def) (vars : List VarInfo) (structs : List StructInfo) (s : State) (kind : Kind) (o : Operand) (v : _)
    → IsWellMade defs vars structs s → IsOperand vars kind o → IsRead s o (Some v) → HasOperand defs vars structs s kind (value_node s v) (with_value s v)
value_fits law defs vars structs s kind o v made is read =
    subst (λ (u : State). HasOperand defs vars structs s kind (value_node s v) u) read.1 (law defs vars structs s kind o (value_node s v) made is read.0)

-- ---- edges that are found

-- an edge that is found by a test, with its id
pub record Found (es : Edges) (test : EdgeId × Edge → Bool) (id : EdgeId) : Type 0 where
  pub edge : Edge
  pub found : find test es ≡ Some (id, edge)
  pub there : edge_with es id ≡ Some edge

pub found : FoundEdgesAreThere → (s : State) (test : EdgeId × Edge → Bool) (id : EdgeId) → IsBounded s
    → Some id ≡ option_map (λ (e : EdgeId × Edge). e.0) (find test s.graph.edges) → Found s.graph.edges test id
found law s test id b is = at (find test s.graph.edges) refl is
  where
    at : (o : Option (EdgeId × Edge)) → find test s.graph.edges ≡ o → Some id ≡ option_map (λ (e : EdgeId × Edge). e.0) o → Found s.graph.edges test id
    at None f is = absurd (cc is)
    at (Some (i, e)) f is =
        let same : i ≡ id = cc is in
        record {
          edge = e;
          found = f ∙ ap (λ (i : EdgeId). Some (i, e)) same;
          there = subst (λ (i : EdgeId). edge_with s.graph.edges i ≡ Some e) same (law s test (i, e) b f);
        }

-- the field of an edge that is there
pub field_of : (es : Edges) (id : EdgeId) (f : ℕ) (m : NodeId) (e : Edge) → edge_with es id ≡ Some e
    → Some m ≡ option_and_then (λ (e : Edge). known_field e f) (edge_with es id) → known_field e f ≡ Some m
field_of es id f m e there is = sym (is ∙ ap (option_and_then (λ (e : Edge). known_field e f)) there)

pub field_there : FoundFieldsAreThere → (s : State) (id : EdgeId) (f : ℕ) (m : NodeId) → IsBounded s
    → Some m ≡ option_and_then (λ (e : Edge). known_field e f) (edge_with s.graph.edges id) → IsNode s.kinds m
field_there law s id f m b is = at (edge_with s.graph.edges id) refl is
  where
    at : (o : Option Edge) → edge_with s.graph.edges id ≡ o → Some m ≡ option_and_then (λ (e : Edge). known_field e f) o → IsNode s.kinds m
    at None there is = absurd (cc is)
    at (Some e) there is = law s id e f m b there (sym is)

-- ---- new blocks

unknown_there : (kinds : Kinds) (fields : ℕ) → AreNodes kinds (known_nodes (replicate fields None))
unknown_there kinds zero = tt
unknown_there kinds (suc fields) = unknown_there kinds fields

-- the new node is there
pub new_there : NewNodesHaveKinds → (s t : State) (kind : Kind) (n : NodeId) → IsBounded s → t ≡ with_nodes s (kind ∷ []) → n ≡ next_node s → IsNode t.kinds n
new_there law s t kind n b is node =
    subst (λ (u : State). IsNode u.kinds n) (sym is) (subst (λ (m : NodeId). IsNode (with_nodes s (kind ∷ [])).kinds m) (sym node) (kind, (law s (kind ∷ []) b).0.0))

-- and so are the nodes of a new block at it
pub block_there : (kinds : Kinds) (at : NodeId) (shape : StructId) (fields : ℕ) (e : Edge) → IsNode kinds at → e ≡ Block at shape (replicate fields None) → AreNodes kinds (nodes_of e)
block_there kinds at shape fields e there is = subst (λ (e : Edge). AreNodes kinds (nodes_of e)) (sym is) (there, unknown_there kinds fields)

-- ---- what is freed

-- what is known of a freed block may be written where it was taken out
pub freed_there : (s t : State) (id : EdgeId) (at : NodeId) (es : Edges) (atoms : List Atom) → t ≡ with_only_edges s (without s.graph.edges id) → es ≡ t.graph.edges
    → atoms ≡ freed_atoms at (block_starts es) → AllByRecursion (IsWellFormed s.kinds) (freed_atoms at (block_starts (without s.graph.edges id)))
    → AllByRecursion (IsWellFormed t.kinds) atoms
freed_there s t id at es atoms taken edges is fit =
    let left : es ≡ without s.graph.edges id = edges ∙ ap (λ (u : State). u.graph.edges) taken in
    let own : atoms ≡ freed_atoms at (block_starts (without s.graph.edges id)) = is ∙ ap (λ (es : Edges). freed_atoms at (block_starts es)) left in
    subst (λ (u : State). AllByRecursion (IsWellFormed u.kinds) atoms) (sym taken) (subst (AllByRecursion (IsWellFormed s.kinds)) (sym own) fit)

pub freed_fits : FreedMayBeWritten → (defs : List Def) (vars : List VarInfo) (structs : List StructInfo) (s t : State) (id : EdgeId) (start : NodeId)
    → IsWellMade defs vars structs t → t.graph ≡ s.graph → Some start ≡ option_map start_of (edge_with s.graph.edges id)
    → AllByRecursion (IsWellFormed t.kinds) (freed_atoms start (block_starts (without t.graph.edges id)))
freed_fits law defs vars structs s t id start made same is = at (edge_with s.graph.edges id) refl is
  where
    at : (o : Option Edge) → edge_with s.graph.edges id ≡ o → Some start ≡ option_map start_of o → AllByRecursion (IsWellFormed t.kinds) (freed_atoms start (block_starts (without t.graph.edges id)))
    at None there is = absurd (cc is)
    at (Some e) there is =
        let own : start_of e ≡ start = cc is in
        let here : edge_with t.graph.edges id ≡ Some e = ap (λ g. edge_with g.edges id) same ∙ there in
        subst (λ (n : NodeId). AllByRecursion (IsWellFormed t.kinds) (freed_atoms n (block_starts (without t.graph.edges id)))) own (law defs vars structs t id e made here)
