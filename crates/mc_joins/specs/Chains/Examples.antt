-- Chains of small programs.
use Rattle.std.specs.Prelude.{pos, Bool, true, false, Some, None, List, [], ◌∷◌, ◌++◌}
use Rattle.mc_base.specs.Nodes.{null}
use Rattle.mc_lines.specs.declared.cert.line.Line.{Line}
use Rattle.mc_state.specs.declared.line.InstrRule.TheVariants.{S1, S3, S4, S13}
use Rattle.mc_lines.specs.declared.cert.line.Line.TheVariants.{Header, Cut, Pass, End, Step, L12, L13, C1, C2}
use Rattle.mc_flow.specs.declared.graph.Flow.{Flow}
use Rattle.mc_flow.specs.declared.instr.Instr.{Instr}
use Rattle.mc_flow.specs.declared.instr.Instr.TheVariants as instr
use Rattle.mc_flow.specs.declared.instr.Operand.TheVariants.{Var, Const}
use Rattle.mc_state.specs.declared.line.Form.TheVariants.{Chain}
use Rattle.mc_state.specs.declared.line.Version.TheVariants.{One}
use Rattle.mc_kernel.specs.Branches.{Head, Path, Setting}
use Rattle.mc_kernel.specs.Examples.{at, var, flow_of, loop_vars}
use Rattle.mc_rules_steps.specs.declared.gap.Gap.TheVariants.{Reached}
use Rattle.mc_state.specs.State.{State}
use Rattle.mc_joins.specs.Examples.{by_atoms}
use Rattle.mc_joins.specs.Chains.Chains.{over}
use Rattle.mc_joins.specs.Chains.Judges.{Lore}
use Rattle.mc_joins.specs.Chains.Opened.{JoinsState}
use Rattle.mc_joins.specs.JointExamples.{two_known, tied}
use Rattle.mc_joins.specs.Parts.{Basis}
use Rattle.mc_base.specs.declared.plain.Kind.TheVariants.{Int}

-- ---- int main() { while (input() != 0) {} assert(0); return 0; }

-- the instructions: the head of the loop is point 1, its exit point 6, and the assertion fails at point 8
abbrev pub assert_code : List Instr
assert_code =
    instr.Skip (at 1)
    ∷ instr.Skip (at 2)
    ∷ instr.Input (var 1) (at 3)
    ∷ instr.TestEq (Var (var 1)) (Const (pos 0)) (at 5) (at 4)
    ∷ instr.Undef (var 1 ∷ []) (at 1)
    ∷ instr.Undef (var 1 ∷ []) (at 6)
    ∷ instr.Skip (at 7)
    ∷ instr.TestEq (Const (pos 0)) (Const (pos 0)) (at 8) (at 9)
    ∷ instr.Fail
    ∷ instr.Copy (var 0) (Const (pos 0)) (at 11)
    ∷ instr.Copy (var 0) (Const (pos 0)) (at 11)
    ∷ instr.End
    ∷ []

-- its flow graph
abbrev pub assert_flow : Flow
assert_flow = flow_of loop_vars (at 1 ∷ []) assert_code

-- the first pass opens a state at the head of the loop
abbrev pub first_pass : List Line
first_pass = Step S1 ∷ C2 [] ∷ []

-- the second changes nothing: from the entry to the head; from the head to the fault, where it is stuck, and back to
-- the head
abbrev pub second_pass : List Line
second_pass =
    Step S1 ∷ L13 0 (null ∷ []) [] ∷ Step S1 ∷ Step S4 ∷ Step S13 ∷ Step S3 ∷ Step S1 ∷ Step S13
    ∷ C1 ∷ L12 ∷ Step S3 ∷ L13 0 (null ∷ []) [] ∷ []

-- the lines of its chain, after the header
abbrev pub assert_lines : List Line
assert_lines = Cut (at 1) ∷ Pass ∷ (first_pass ++ (Pass ∷ (second_pass ++ End ∷ [])))

-- its chain
abbrev pub assert_document : List Line
assert_document = Header One Chain ∷ assert_lines

-- those of the chain that ends after its first pass
abbrev pub short_lines : List Line
short_lines = Cut (at 1) ∷ Pass ∷ (first_pass ++ End ∷ [])

-- that chain
abbrev pub short_document : List Line
short_document = Header One Chain ∷ short_lines

-- ---- C2 and C3

-- a branch that has come to the cut with a state
abbrev pub arrived : State → Path
arrived s = record { point = at 1; state = s; goal = None; moved = true; closing = false }

-- the cut has one state
abbrev pub with_one : State → Setting
with_one s = over (at 1 ∷ []) ((at 1, s) ∷ [])

-- where what is known is what states write, and both states are tidy
abbrev pub told : Lore → Lore
told k = record k { lines = record k.lines { know = by_atoms.know }; tidy = λ s. true }

-- where besides no instruction may be reached
abbrev pub told_reached : Lore → Lore
told_reached k = record (told k) { lines = record (told k).lines { gap = λ p s. Some Reached } }

-- where besides a join writes no atom, and states are the same or not
abbrev pub told_same : Bool → Lore → Lore
told_same same k = record (told k) { joint = λ round last. []; same = λ s t. same }

-- in the third pass, where a cut has two counters that are tied by an offset, and a branch comes to it with greater ones, C3 puts
-- what their join gives in the place of the cut's state
abbrev pub CountersAreJoined : Type 0
CountersAreJoined =
    (w : Basis)
    → (heads : List Head) × JoinsState w 3 (pos 0 ∷ pos 10 ∷ []) (with_one (two_known Int (tied (pos 1)))) 0 []
    (arrived (two_known Int (tied (pos 2)))) [] heads
