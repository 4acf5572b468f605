-- What instructions take, at states that are well made for their program.
use Rattle.std.specs.Prelude.{◌≡◌, ◌≤ℤ◌, ℕ, ℤ, Bool, List, Option, Some}
use Rattle.std.specs.List.{AllByRecursion, find}
use Rattle.mc_base.specs.declared.ids.EdgeId.{EdgeId}
use Rattle.mc_base.specs.declared.ids.NodeId.{NodeId}
use Rattle.mc_base.specs.declared.ids.PointId.{PointId}
use Rattle.mc_base.specs.declared.plain.Kind.{Kind}
use Rattle.mc_base.specs.declared.plain.VarInfo.{VarInfo}
use Rattle.mc_flow.specs.declared.defs.rules.Def.{Def}
use Rattle.mc_flow.specs.declared.defs.shapes.StructInfo.{StructInfo}
use Rattle.mc_flow.specs.declared.defs.shapes.Structs.{Structs}
use Rattle.mc_flow.specs.declared.graph.Flow.{Flow}
use Rattle.mc_flow.specs.declared.instr.Instr.{Instr}
use Rattle.mc_flow.specs.declared.instr.Operand.{Operand}
use Rattle.mc_flow.specs.declared.instr.Operand.TheVariants.{Const}
use Rattle.mc_flow.specs.Valid.{FitsKinds, IsOperand, IsValid, ArgsFit as OperandsOf}
use Rattle.mc_state.specs.declared.graph.edge.Edge.{Edge}
use Rattle.mc_state.specs.Graph.Edges.{start_of}
use Rattle.mc_state.specs.Graph.Graph.{block_starts, edge_with, without}
use Rattle.mc_pure.specs.Pure.{HasKind, IsBound, IsNode, IsWellFormed}
use Rattle.mc_base.specs.declared.ranges.Range.{Range}
use Rattle.mc_base.specs.Ranges.Range.{IsLeastIntRange, IsOutcome}
use Rattle.mc_state.specs.Fits.{HaveKinds, IsBounded, IsWellMade}
use Rattle.mc_state.specs.State.{State}
use Rattle.mc_rules_steps.specs.Judges.{known_field, operand_nodes}
use Rattle.mc_rules_steps.specs.Operands.{code_at, operand_node, with_operand, with_operands}
use Rattle.mc_rules_steps.specs.Steps.{freed_atoms, in_range}
use Rattle.mc_rules_steps.specs.Sums.{Ends, Operation, int_atoms}

-- the instruction is one of a program for which the state is well made
pub record FitsAt (code : Instr) (s : State) : Type 0 where
  pub vars : List VarInfo
  pub structs : Structs
  pub defs : List Def
  pub kinds : FitsKinds vars structs defs code
  pub made : IsWellMade defs vars structs.list s

-- so each instruction of a valid flow graph is
abbrev pub InstructionsFit : Type 0
InstructionsFit =
    (flow : Flow) (defs : List Def) (p : PointId) (code : Instr) (s : State)
    → IsValid flow defs → IsWellMade defs flow.vars flow.structs.list s → code_at flow p ≡ Some code → FitsAt code s

-- ---- operands

-- a state with the node of an operand of a kind: it is well made, the node is of the kind, and the others keep theirs
pub record HasOperand (defs : List Def) (vars : List VarInfo) (structs : List StructInfo) (s : State) (kind : Kind)
    (n : NodeId) (t : State) : Type 0 where
  pub made : IsWellMade defs vars structs t
  pub has : HasKind t.kinds kind n
  pub grows : (k : Kind) (m : NodeId) → HasKind s.kinds k m → HasKind t.kinds k m
  pub vars_stay : t.env ≡ s.env
  pub edges_stay : t.graph ≡ s.graph

-- the node of an operand that is known can be put into a well-made state
abbrev pub OperandFits : Type 0
OperandFits =
    (defs : List Def) (vars : List VarInfo) (structs : List StructInfo) (s : State) (kind : Kind) (o : Operand) (n : NodeId)
    → IsWellMade defs vars structs s → IsOperand vars kind o → operand_node s o ≡ Some n
    → HasOperand defs vars structs s kind n (with_operand s o)

-- a state with the nodes of operands, each of its kind
pub record HasOperands (defs : List Def) (vars : List VarInfo) (structs : List StructInfo) (s : State)
    (kinds : List Kind) (ns : List NodeId) (t : State) : Type 0 where
  pub made : IsWellMade defs vars structs t
  pub have' : HaveKinds t.kinds kinds ns
  pub grows : (k : Kind) (m : NodeId) → HasKind s.kinds k m → HasKind t.kinds k m

-- and so can the nodes of several
abbrev pub OperandsFit : Type 0
OperandsFit =
    (defs : List Def) (vars : List VarInfo) (structs : List StructInfo) (os : List Operand) (kinds : List Kind)
    (s : State) (ns : List NodeId)
    → IsWellMade defs vars structs s → OperandsOf vars os kinds → operand_nodes s os ≡ Some ns
    → HasOperands defs vars structs s kinds ns (with_operands s os)

-- an operand's number may stand in an atom
abbrev pub ConstantsFit : Type 0
ConstantsFit = (vars : List VarInfo) (kind : Kind) (c : ℤ) → IsOperand vars kind (Const c) → IsBound c

-- ---- blocks

-- an edge that is found is the one with its id
abbrev pub FoundEdgesAreThere : Type 0
FoundEdgesAreThere =
    (s : State) (test : EdgeId × Edge → Bool) (e : EdgeId × Edge)
    → IsBounded s → find test s.graph.edges ≡ Some e → edge_with s.graph.edges e.0 ≡ Some e.1

-- the node of a field of an edge is there
abbrev pub FoundFieldsAreThere : Type 0
FoundFieldsAreThere =
    (s : State) (id : EdgeId) (e : Edge) (f : ℕ) (m : NodeId)
    → IsBounded s → edge_with s.graph.edges id ≡ Some e → known_field e f ≡ Some m → IsNode s.kinds m

-- what is known of the start of a block that is freed may be written
abbrev pub FreedMayBeWritten : Type 0
FreedMayBeWritten =
    (defs : List Def) (vars : List VarInfo) (structs : List StructInfo) (s : State) (id : EdgeId) (e : Edge)
    → IsWellMade defs vars structs s → edge_with s.graph.edges id ≡ Some e
    → AllByRecursion (IsWellFormed s.kinds) (freed_atoms (start_of e) (block_starts (without s.graph.edges id)))

-- ---- results

-- the ends of a range of numbers
abbrev pub ends_of : Range → Ends
ends_of r = record { lo = r.lo; hi = r.hi }

-- the ends of an operation's results are those of their least range, where that lies in `int`
abbrev pub EndsAreLeast : Operation → Type 0
EndsAreLeast op =
    (n : NodeId) (left right : Range) (results : Option Range)
    → left.lo ≤ℤ left.hi → right.lo ≤ℤ right.hi → IsLeastIntRange (IsOutcome op.apply left right) results
    → int_atoms n (op.ends (ends_of left) (ends_of right)) ≡ in_range n results
