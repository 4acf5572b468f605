-- The line that a branch asks for.
use Rattle.std.specs.Prelude.{◌≡◌, ◌&&◌, ◌⊎◌, Bool, true, false, List, Option, Some, None, option_and_then, option_map, if◌then◌else◌, pos}
use Rattle.std.specs.List.{find, list_any}
use Rattle.std.specs.Option.{option_or}
use Rattle.std.specs.Ordering.{int_eq}
use Rattle.mc_base.specs.declared.ids.EdgeId.{EdgeId}
use Rattle.mc_base.specs.declared.ids.NodeId.{NodeId}
use Rattle.mc_base.specs.declared.ids.StructId.{StructId}
use Rattle.mc_base.specs.Nodes.{null}
use Rattle.mc_state.specs.declared.line.InstrRule.TheVariants.{S1, S2, S3, S4, S5, S6, S7, S8, S9, S10, S11, S12, S13, S14, S15, S16, S17, S18}
use Rattle.mc_lines.specs.declared.cert.line.Line.{Line}
use Rattle.mc_lines.specs.declared.cert.line.Line.TheVariants as line
use Rattle.mc_flow.specs.declared.defs.rules.Def.{Def}
use Rattle.mc_flow.specs.declared.graph.Flow.{Flow}
use Rattle.mc_flow.specs.declared.instr.Instr.{Instr}
use Rattle.mc_flow.specs.declared.instr.Instr.TheVariants.{Skip, Copy, Undef, Input, Add, Sub, Mul, Load, Store, Malloc, Free, TestEq, TestLe, AssumeShape, AssertShape, AssertEmpty, End, Fail}
use Rattle.mc_flow.specs.declared.instr.Operand.{Operand}
use Rattle.mc_flow.specs.declared.instr.Operand.TheVariants.{Var, Const}
use Rattle.mc_flow.specs.Valid.{IsValid}
use Rattle.mc_state.specs.declared.graph.edge.Edge.{Edge}
use Rattle.mc_state.specs.declared.graph.edge.Edge.TheVariants.{Block, Ind, Seg}
use Rattle.mc_state.specs.Graph.Edges.{start_of}
use Rattle.mc_state.specs.Graph.Graph.{Edges}
use Rattle.mc_state.specs.Known.{Test, Tells, equal, is_false}
use Rattle.mc_state.specs.State.{State, var_node}
use Rattle.mc_rules_logic.specs.Back.Judges.{ends_back_at}
use Rattle.mc_rules_steps.specs.declared.gap.Gap.{Gap}
use Rattle.mc_rules_steps.specs.Judges.{is_block_at, is_shaped_at}
use Rattle.mc_rules_steps.specs.Operands.{code_at}
use Rattle.mc_rules_steps.specs.Unmet.{IsUnmet}
use Rattle.mc_kernel.specs.Branches.{MayStep, Path, Setting}
use Rattle.mc_kernel.specs.Instances.{IsInstance, accessed_by}
use Rattle.mc_kernel.specs.Reading.Documents.{IsMade}
use Rattle.mc_kernel.specs.Progress.Progress.{IsInside, advances}

-- ---- edges that are unfolded

-- the line that unfolds an edge from its start; a block has none
abbrev pub from_start : EdgeId × Edge → Option Line
from_start (id, Block at shape fields) = None
from_start (id, Ind at pred args) = Some (line.L1 id)
from_start (id, Seg at args pred «end» ends) = Some (line.L2 id)

-- the edge is no block
abbrev pub is_summary : Edge → Bool
is_summary (Block at shape fields) = false
is_summary (Ind at pred args) = true
is_summary (Seg at args pred «end» ends) = true

-- the edge is no block, and starts at a node that is equal
abbrev pub starts_at : Test → NodeId → EdgeId × Edge → Bool
starts_at know n e = is_summary e.1 && equal know (start_of e.1) n

-- the line that unfolds the first such edge
abbrev pub at_start : Test → NodeId → Edges → Option Line
at_start know n es = option_and_then from_start (find (starts_at know n) es)

-- the edge is a Seg with an end argument at a back position that is equal to the node
abbrev pub ends_at : Test → List Def → NodeId → EdgeId × Edge → Bool
ends_at know defs n (id, Block at shape fields) = false
ends_at know defs n (id, Ind at pred args) = false
ends_at know defs n (id, Seg at args pred «end» ends) = ends_back_at know defs pred n 0 ends

-- the line that unfolds the first such edge from its end
abbrev pub at_end : Test → List Def → NodeId → Edges → Option Line
at_end know defs n es = option_map (λ e. line.L15 e.0) (find (ends_at know defs n) es)

-- the line that unfolds an edge at a node that is accessed: from its start, and where there is none from its end
abbrev pub at_node : Test → List Def → Edges → NodeId → Option Line
at_node know defs es n = option_or (at_start know n es) (at_end know defs n es)

-- the line that ends a branch whose state is false; else the one that unfolds an edge at null
abbrev pub false_or_null : Test → Edges → Option Line
false_or_null know es = if is_false know then Some line.L12 else at_start know null es

-- ---- instructions

-- the line, where a block of the struct lies at the node
abbrev pub at_block : Test → StructId → Line → Edges → NodeId → Option Line
at_block know shape l es n = if list_any (is_shaped_at know n shape) es then Some l else None

-- the line that frees null, or a block that is there
abbrev pub freeing : Test → Edges → NodeId → Option Line
freeing know es n = if equal know n null then Some (line.Step S11) else if list_any (is_block_at know n) es then Some (line.Step S12) else None

-- the node of what is freed, where it is known: of constants, 0 alone is a pointer
abbrev pub freed_node : State → Operand → Option NodeId
freed_node s (Var x) = var_node s x
freed_node s (Const c) = if int_eq c (pos 0) then Some null else None

-- the line of an instruction that lacks nothing, where it is an instance: at an access, where the block is there
abbrev pub instance : Test → State → Instr → Option Line
instance know s (Skip q) = Some (line.Step S1)
instance know s (Copy x o q) = Some (line.Step S2)
instance know s (Undef xs q) = Some (line.Step S3)
instance know s (Input x q) = Some (line.Step S4)
instance know s (Add x o p q) = Some (line.Step S5)
instance know s (Sub x o p q) = Some (line.Step S6)
instance know s (Mul x o p q) = Some (line.Step S7)
instance know s (Load x y shape f q) = option_and_then (at_block know shape (line.Step S8) s.graph.edges) (var_node s y)
instance know s (Store y shape f o q) = option_and_then (at_block know shape (line.Step S9) s.graph.edges) (var_node s y)
instance know s (Malloc x shape q) = Some (line.Step S10)
instance know s (Free o q) = option_and_then (freeing know s.graph.edges) (freed_node s o)
instance know s (TestEq o p t f) = Some (line.Step S13)
instance know s (TestLe o p t f) = Some (line.Step S14)
instance know s (AssumeShape pred x os q) = Some (line.Step S15)
instance know s (AssertShape pred o os q) = Some (line.Step S16)
instance know s (AssertEmpty q) = Some (line.Step S18)
instance know s End = Some (line.Step S17)
instance know s Fail = None

-- that line, or the one that unfolds what the instruction accesses
abbrev pub at_code : Test → List Def → State → Instr → Option Line
at_code know defs s code =
    option_or (instance know s code) (option_and_then (at_node know defs s.graph.edges) (accessed_by s (Some code)))

-- ---- laws

-- there is a line, it advances the branch, and it is an instance there
pub record IsRight (flow : Flow) (defs : List Def) (g : Setting) (b : Path) (asked : Option Line) : Type 0 where
  pub line : Line
  pub is : asked ≡ Some line
  pub is_such : advances line ≡ true
  pub next : List Path
  pub instance : IsInstance flow defs g line b next

-- at a branch that is not closing, side branches too, the line that ends a false state or unfolds an edge at null is an
-- instance, where there is one
abbrev pub FirstLinesAreRight : Type 0
FirstLinesAreRight =
    (know : Test) (flow : Flow) (defs : List Def) (g : Setting) (b : Path)
    → IsMade flow defs b → b.closing ≡ false → Tells know b.state
    → IsRight flow defs g b (false_or_null know b.state.graph.edges) ⊎ (false_or_null know b.state.graph.edges ≡ None)

-- and where there is none, nor an instruction that is unmet, that of the instruction is there and is an instance, where
-- an instruction's line may stand
abbrev pub CodeLinesAreRight : Type 0
CodeLinesAreRight =
    (know : Test) (flow : Flow) (defs : List Def) (g : Setting) (b : Path)
    → IsValid flow defs → IsMade flow defs b → IsInside flow b → MayStep g b → Tells know b.state
    → false_or_null know b.state.graph.edges ≡ None → ((gap : Gap) → IsUnmet flow defs b.point b.state gap → ⊥)
    → IsRight flow defs g b (option_and_then (at_code know defs b.state) (code_at flow b.point))
