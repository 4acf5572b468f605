-- What an instruction lacks at a state, where it is no shape: as tests.
use Rattle.std.specs.Prelude.{◌&&◌, ◌||◌, not, ℕ, Bool, true, false, List, [], ◌∷◌, Option, Some, None, is_some, option_and_then, slice_get, if◌then◌else◌}
use Rattle.std.specs.List.{list_all, list_any}
use Rattle.mc_base.specs.declared.ids.EdgeId.{EdgeId}
use Rattle.mc_base.specs.declared.ids.NodeId.{NodeId}
use Rattle.mc_base.specs.declared.ids.PointId.{PointId}
use Rattle.mc_base.specs.declared.ids.StructId.{StructId}
use Rattle.mc_base.specs.declared.ids.VarId.{VarId}
use Rattle.mc_base.specs.Nodes.{null}
use Rattle.mc_flow.specs.declared.defs.rules.Def.{Def}
use Rattle.mc_flow.specs.declared.graph.Flow.{Flow}
use Rattle.mc_flow.specs.declared.instr.Operand.{Operand}
use Rattle.mc_flow.specs.declared.instr.Operand.TheVariants.{Var, Const}
use Rattle.mc_flow.specs.declared.instr.Instr.{Instr}
use Rattle.mc_flow.specs.declared.instr.Instr.TheVariants.{Skip, Copy, Undef, Input, Add, Sub, Mul, Load, Store, Malloc, Free, TestEq, TestLe, AssumeShape, AssertShape, AssertEmpty, End, Fail}
use Rattle.mc_state.specs.declared.graph.edge.Edge.{Edge}
use Rattle.mc_state.specs.declared.graph.edge.Edge.TheVariants.{Block, Ind, Seg}
use Rattle.mc_state.specs.Graph.Edges.{start_of, fields_of}
use Rattle.mc_state.specs.Graph.Graph.{Edges}
use Rattle.mc_state.specs.Known.{Test, is_false, equal}
use Rattle.mc_state.specs.State.{State, var_node}
use Rattle.mc_rules_logic.specs.Back.Judges.{ends_back_at}
use Rattle.mc_rules_steps.specs.declared.gap.Gap.{Gap}
use Rattle.mc_rules_steps.specs.declared.gap.Gap.TheVariants.{Uninit, NoBlock, Reached, UninitField, NotEmpty}
use Rattle.mc_rules_steps.specs.Judges.{is_shaped_at, is_block_at}
use Rattle.mc_rules_steps.specs.Operands.{code_at}
use Rattle.mc_rules_steps.specs.Unmet.{taken}

-- the first operand that is a variable without a node
abbrev pub first_unknown : State → List Operand → Option VarId
first_unknown s [] = None
first_unknown s (Var y ∷ os) = if is_some (var_node s y) then first_unknown s os else Some y
first_unknown s (Const c ∷ os) = first_unknown s os

-- the edge may be unfolded where the node is accessed: an Ind or a Seg that starts there, or a Seg that ends there with
-- an argument at a back position
abbrev pub may_unfold : Test → List Def → NodeId → EdgeId × Edge → Bool
may_unfold know defs n (id, Block at shape fields) = false
may_unfold know defs n (id, Ind at pred args) = equal know n at
may_unfold know defs n (id, Seg at args pred «end» ends) = equal know n at || ends_back_at know defs pred n 0 ends

-- no edge passes the test, and none may be unfolded at the node
abbrev pub lacks : (EdgeId × Edge → Bool) → Test → List Def → NodeId → Edges → Bool
lacks test know defs n es = not (list_any test es) && not (list_any (may_unfold know defs n) es)

-- the gap, where there is one
abbrev pub gap_if : Bool → Gap → Option Gap
gap_if true gap = Some gap
gap_if false gap = None

-- a block of the struct has to lie at the node
abbrev pub block_gap : Test → List Def → StructId → Edges → NodeId → Option Gap
block_gap know defs shape es n = gap_if (lacks (is_shaped_at know n shape) know defs n es) (NoBlock n)

-- the field is there, and is not known
abbrev pub is_unknown : Option (Option NodeId) → Bool
is_unknown None = false
is_unknown (Some None) = true
is_unknown (Some (Some n)) = false

-- the edge is a block of the struct at a node that is equal, with a field that is not known
abbrev pub lacks_field : Test → NodeId → StructId → ℕ → EdgeId × Edge → Bool
lacks_field know n shape f e = is_shaped_at know n shape e && is_unknown (slice_get (fields_of e.1) f)

-- the first of two gaps
abbrev pub or_else : Option Gap → Option Gap → Option Gap
or_else None other = other
or_else (Some gap) other = Some gap

-- a block of the struct has to lie at the node, and a field of it to be known
abbrev pub field_gap : Test → List Def → StructId → ℕ → Edges → NodeId → Option Gap
field_gap know defs shape f es n =
    or_else (block_gap know defs shape es n) (gap_if (list_any (lacks_field know n shape f) es) (UninitField n f))

-- the node has to be null, or a block to lie there
abbrev pub free_gap : Test → List Def → Edges → NodeId → Option Gap
free_gap know defs es n = gap_if (not (equal know n null) && lacks (is_block_at know n) know defs n es) (NoBlock n)

-- what is freed: a constant is null
abbrev pub freed_gap : Test → List Def → State → Operand → Option Gap
freed_gap know defs s (Var x) = option_and_then (free_gap know defs s.graph.edges) (var_node s x)
freed_gap know defs s (Const c) = None

-- the edges have to be all that is allocated, and to start at null
abbrev pub empty_gap : Test → State → Option Gap
empty_gap know s = gap_if (not (s.whole && list_all (λ e. equal know (start_of e.1) null) s.graph.edges)) (NotEmpty s.whole)

-- what an instruction lacks where all that it takes is known
abbrev pub lacking : Test → List Def → Instr → State → Option Gap
lacking know defs (Skip q) s = None
lacking know defs (Copy x o q) s = None
lacking know defs (Undef xs q) s = None
lacking know defs (Input x q) s = None
lacking know defs (Add x o p q) s = None
lacking know defs (Sub x o p q) s = None
lacking know defs (Mul x o p q) s = None
lacking know defs (Load x y shape f q) s = option_and_then (field_gap know defs shape f s.graph.edges) (var_node s y)
lacking know defs (Store y shape f o q) s = option_and_then (block_gap know defs shape s.graph.edges) (var_node s y)
lacking know defs (Malloc x shape q) s = None
lacking know defs (Free o q) s = freed_gap know defs s o
lacking know defs (TestEq o p t f) s = None
lacking know defs (TestLe o p t f) s = None
lacking know defs (AssumeShape pred x os q) s = None
lacking know defs (AssertShape pred o os q) s = None
lacking know defs (AssertEmpty q) s = empty_gap know s
lacking know defs End s = None
lacking know defs Fail s = Some Reached

-- a variable without a node, or what else is lacking
abbrev pub unknown_or : Option VarId → Option Gap → Option Gap
unknown_or None other = other
unknown_or (Some x) other = Some (Uninit x)

-- what an instruction lacks but for shapes
abbrev pub gap_of : Test → List Def → State → Instr → Option Gap
gap_of know defs s code = unknown_or (first_unknown s (taken code)) (lacking know defs code s)

-- what the instruction at a point lacks at a state that is not false
abbrev pub gap_at : Test → List Def → Flow → PointId → State → Option Gap
gap_at know defs flow p s = if is_false know then None else option_and_then (gap_of know defs s) (code_at flow p)
