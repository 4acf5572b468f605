-- Small flow graphs, and documents over them.
use Rattle.std.specs.Prelude.{ℕ, pos, true, false, Some, None, List, [], ◌∷◌, ◌++◌, codes}
use Rattle.mc_base.specs.declared.ids.EdgeId.{EdgeId}
use Rattle.mc_base.specs.declared.ids.PointId.{PointId}
use Rattle.mc_base.specs.declared.ids.VarId.{VarId}
use Rattle.mc_base.specs.declared.plain.Kind.TheVariants.{Int, Ptr}
use Rattle.mc_base.specs.declared.plain.Atom.TheVariants.{In}
use Rattle.mc_base.specs.declared.plain.VarInfo.{VarInfo}
use Rattle.mc_base.specs.Nodes.{null}
use Rattle.mc_flow.specs.Defs.Examples.{structs, list_id}
use Rattle.mc_flow.specs.declared.graph.Flow.{Flow}
use Rattle.mc_flow.specs.declared.graph.Point.{Point}
use Rattle.mc_flow.specs.declared.instr.Instr.{Instr}
use Rattle.mc_flow.specs.declared.instr.Instr.TheVariants as instr
use Rattle.mc_flow.specs.declared.instr.Operand.TheVariants.{Var, Const}
use Rattle.mc_pure.specs.Examples.{node}
use Rattle.mc_state.specs.declared.line.Form.TheVariants.{Certificate, Chain}
use Rattle.mc_lines.specs.declared.cert.line.Line.{Line}
use Rattle.mc_state.specs.declared.line.InstrRule.TheVariants.{S1, S2, S3, S4, S13, S15, S16, S17}
use Rattle.mc_lines.specs.declared.cert.line.Line.TheVariants.{Header, Cut, Head, Pass, End, Step, L13, L14, C1}
use Rattle.mc_state.specs.declared.line.Version.TheVariants.{One}
use Rattle.mc_state.specs.declared.raw_state.NodeKind.TheVariants.{Zero}
use Rattle.mc_state.specs.declared.raw_state.RawState.{RawState}
use Rattle.mc_state.specs.Examples.{one_cell}
use Rattle.mc_state.specs.RawStates.{state_of}
use Rattle.mc_state.specs.State.{State}
use Rattle.mc_kernel.specs.Branches.{Path, path_to}

-- the point with a number
abbrev pub at : ℕ → PointId
at n = record { 0 = n }

-- the variable with a number
abbrev pub var : ℕ → VarId
var n = record { 0 = n }

-- the edge with a number
abbrev pub edge : ℕ → EdgeId
edge n = record { 0 = n }

-- an instruction at a place
abbrev pub point : Instr → Point
point code = record { code = code; place = record { line = 1; column = 1 } }

-- each instruction at a point of its own
abbrev pub points : List Instr → List Point
points [] = []
points (i ∷ is) = point i ∷ points is

-- the flow graph of instructions, with loops at these points
abbrev pub flow_of : List VarInfo → List PointId → List Instr → Flow
flow_of vars heads code =
    record { points = points code; vars = vars; heads = heads; merges = []; thresholds = pos 0 ∷ []; structs = record { list = structs } }

-- ---- int main() { while (input() != 0) {} return 0; }

-- the result, and the input
abbrev pub loop_vars : List VarInfo
loop_vars = record { name = []; kind = Int } ∷ record { name = []; kind = Int } ∷ []

-- the instructions of `int main(){while(input()!=0){} return 0;}`
abbrev pub loop_code : List Instr
loop_code =
    instr.Skip (at 1)
    ∷ instr.Skip (at 2)
    ∷ instr.Input (var 1) (at 3)
    ∷ instr.TestEq (Var (var 1)) (Const (pos 0)) (at 4) (at 7)
    ∷ instr.Undef (var 1 ∷ []) (at 5)
    ∷ instr.Skip (at 6)
    ∷ instr.Copy (var 0) (Const (pos 0)) (at 8)
    ∷ instr.Undef (var 1 ∷ []) (at 1)
    ∷ instr.End
    ∷ []

-- its flow graph
abbrev pub loop_flow : Flow
loop_flow = flow_of loop_vars (at 1 ∷ []) loop_code

-- [[null,null],["0"],[],[]]: neither variable is known
abbrev pub loop_state : RawState
loop_state = record { vars = None ∷ None ∷ []; kinds = Zero ∷ []; edges = []; atoms = []; whole = false }

-- from the entry to the head; from the head to the end, and back to the head
abbrev pub loop_rules : List Line
loop_rules =
    Step S1 ∷ L13 0 (null ∷ []) [] ∷ Step S1 ∷ Step S4 ∷ Step S13 ∷ Step S3 ∷ Step S1
    ∷ Step S2 ∷ Step S17 ∷ Step S3 ∷ L13 0 (null ∷ []) [] ∷ []

-- its certificate
abbrev pub loop_document : List Line
loop_document = Header One Certificate ∷ Cut (at 1) ∷ Head (at 1) loop_state ∷ (loop_rules ++ End ∷ [])

-- ---- int main() { struct cell *l; assume_shape(list, l); assert_shape(list, l); return 0; }

-- the result, and the list
abbrev pub list_vars : List VarInfo
list_vars = record { name = []; kind = Int } ∷ record { name = codes "l"; kind = Ptr } ∷ []

-- the instructions of a program that assumes and asserts a list
abbrev pub list_code : List Instr
list_code =
    instr.Skip (at 1)
    ∷ instr.Undef (var 1 ∷ []) (at 2)
    ∷ instr.AssumeShape list_id (var 1) [] (at 3)
    ∷ instr.AssertShape list_id (Var (var 1)) [] (at 4)
    ∷ instr.Copy (var 0) (Const (pos 0)) (at 5)
    ∷ instr.End
    ∷ []

-- its flow graph
abbrev pub list_flow : Flow
list_flow = flow_of list_vars [] list_code

-- the side branch of the assertion ends by L14, before the main branch goes on
abbrev pub list_rules : List Line
list_rules = Step S1 ∷ Step S3 ∷ Step S15 ∷ Step S16 ∷ L14 (edge 0) ∷ Step S2 ∷ Step S17 ∷ []

-- its certificate
abbrev pub list_document : List Line
list_document = Header One Certificate ∷ (list_rules ++ End ∷ [])

-- ---- a program that fails

-- the head of a loop goes on to a point that fails
abbrev pub failing_code : List Instr
failing_code = instr.Skip (at 1) ∷ instr.Skip (at 2) ∷ instr.Fail ∷ []

-- a flow graph that fails after a loop head
abbrev pub failing_flow : Flow
failing_flow = flow_of [] (at 1 ∷ []) failing_code

-- [[],["0"],[],[]]
abbrev pub failing_state : RawState
failing_state = record { vars = []; kinds = Zero ∷ []; edges = []; atoms = []; whole = false }

-- a pass of a chain, which is stuck where the program fails
abbrev pub failing_pass : List Line
failing_pass = Step S1 ∷ L13 0 (null ∷ []) [] ∷ Step S1 ∷ C1 ∷ []

-- the chain of that pass, with the head
abbrev pub failing_chain : List Line
failing_chain = Header One Chain ∷ Cut (at 1) ∷ Head (at 1) failing_state ∷ Pass ∷ (failing_pass ++ End ∷ [])

-- where it is stuck: at the fault, with the state of the head
abbrev pub failing_path : Path
failing_path = path_to (at 2) (state_of failing_state) None

-- ---- a jump with an edge

-- both variables are one node, an address where a cell lies, and nothing else is allocated
abbrev pub one_name_head : State
one_name_head =
    record {
      env = Some (node 1) ∷ Some (node 1) ∷ [];
      kinds = (node 1, Ptr) ∷ [];
      graph = one_cell;
      atoms = In (node 1) (pos 1) (pos 4611686018427387903) ∷ [];
      next = 2;
      whole = true;
    }
