-- The open branches of a document, with what malloc answered on each.
use Rattle.std.specs.Prelude.{◌≡◌, suc, List, [], ◌∷◌, ◌++◌, map, true, Some, None, All}
use Rattle.std.specs.List.{AllByRecursion}
use Rattle.mc_base.specs.declared.ids.NodeId.{NodeId}
use Rattle.mc_base.specs.declared.ids.PredId.{PredId}
use Rattle.mc_flow.specs.declared.defs.rules.Def.{Def}
use Rattle.mc_flow.specs.declared.graph.Flow.{Flow}
use Rattle.mc_flow.specs.declared.instr.Instr.{Instr}
use Rattle.mc_flow.specs.declared.instr.Instr.TheVariants as instr
use Rattle.mc_flow.specs.Valid.{IsValid}
use Rattle.mc_state.specs.declared.line.InstrRule.TheVariants.{S10}
use Rattle.mc_state.specs.Known.{Test, Tells}
use Rattle.mc_state.specs.State.{State, next_node}
use Rattle.mc_rules_steps.specs.declared.gap.Gap.{Gap}
use Rattle.mc_rules_steps.specs.declared.gap.Gap.TheVariants.{NoShape}
use Rattle.mc_rules_steps.specs.Unmet.{IsUnmet}
use Rattle.mc_lines.specs.declared.cert.line.Line.{Line}
use Rattle.mc_lines.specs.declared.cert.line.Line.TheVariants as line
use Rattle.mc_kernel.specs.Branches.{Path, Setting, IsPlain}
use Rattle.mc_kernel.specs.Instances.{IsInstance}
use Rattle.mc_kernel.specs.Progress.Progress.{advances}
use Rattle.mc_exact.specs.Exact.{Picks, IsExactBranch}
use Rattle.mc_exact.specs.Real.{FaultsWith, IsShort, scripted}

-- a branch with what malloc answered on it
abbrev pub Track : Type 0
Track = Path × Picks

-- the two branches that come of an allocation, with one answer more: null, and the start of the new block
abbrev pub picked : State → Picks → List Path → List Track
picked s picks [] = []
picked s picks (a ∷ []) = (a, picks ++ None ∷ []) ∷ []
picked s picks (a ∷ b ∷ rest) = (a, picks ++ None ∷ []) ∷ (b, picks ++ Some (next_node s) ∷ []) ∷ map (λ n. (n, picks)) rest

-- the branches that come of a line at a state
abbrev pub tracked : Line → State → Picks → List Path → List Track
tracked (line.Step S10) s picks next = picked s picks next
tracked other s picks next = map (λ n. (n, picks)) next

-- the branch is exact: it is no side branch, and comes from the entry by rules of instructions with these answers
abbrev pub IsExactTrack : Flow → Track → Type 0
IsExactTrack flow t = IsPlain t.0 × IsExactBranch flow t.0.point t.0.state t.1

-- an instruction at which a run is given nothing but an answer of malloc, and no shape is asserted
abbrev pub IsClosed : Instr → Type 0
IsClosed (instr.Input x q) = ⊥
IsClosed (instr.AssumeShape pred x os q) = ⊥
IsClosed (instr.AssertShape pred o os q) = ⊥
IsClosed other = Unit {0}

-- each instruction is such
abbrev pub AsksMallocAlone : Flow → Type 0
AsksMallocAlone flow = All (λ point. IsClosed point.code) flow.points

-- there the branches that come of an exact one by a line that advances it are exact
abbrev pub LinesKeepExact : Type 0
LinesKeepExact =
    (flow : Flow) (defs : List Def) (g : Setting) (l : Line) (b : Path) (next : List Path) (picks : Picks)
    → AsksMallocAlone flow → advances l ≡ true → IsExactTrack flow (b, picks) → IsInstance flow defs g l b next
    → AllByRecursion (IsExactTrack flow) (tracked l b.state picks next)

-- a stuck branch lacks something, and that is no shape
abbrev pub StuckLacks : Type 0
StuckLacks =
    (flow : Flow) (defs : List Def) (g : Setting) (b : Path) (next : List Path)
    → AsksMallocAlone flow → IsInstance flow defs g line.C1 b next
    → (gap : Gap) × IsUnmet flow defs b.point b.state gap × ((pred : PredId) (n : NodeId) → gap ≡ NoShape pred n → ⊥)

-- so where an exact branch is stuck, a run faults
abbrev pub StuckIsReal : Type 0
StuckIsReal =
    (flow : Flow) (defs : List Def) (g : Setting) (b : Path) (next : List Path) (picks : Picks) (know : Test)
    → IsValid flow defs → IsShort flow → AsksMallocAlone flow → IsExactTrack flow (b, picks) → Tells know b.state
    → IsInstance flow defs g line.C1 b next → FaultsWith flow defs b.point (map (scripted know) picks) (suc b.point.0)
