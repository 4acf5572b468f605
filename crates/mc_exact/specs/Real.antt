-- Alarms that are real: a run faults there.
use Rattle.std.specs.Prelude.{◌≡◌, ◌≤◌, ℕ, suc, List, [], map, Option, Some, None, length, slice_get}
use Rattle.mc_base.specs.declared.ids.NodeId.{NodeId}
use Rattle.mc_base.specs.declared.ids.PointId.{PointId}
use Rattle.mc_base.specs.declared.ids.PredId.{PredId}
use Rattle.mc_base.specs.declared.plain.FaultKind.{FaultKind}
use Rattle.mc_flow.specs.Heap.Choices.{Choice, malloc}
use Rattle.mc_flow.specs.declared.defs.rules.Def.{Def}
use Rattle.mc_flow.specs.declared.graph.Flow.{Flow}
use Rattle.mc_flow.specs.declared.graph.Point.{Point}
use Rattle.mc_flow.specs.Runs.{fault, Reaches}
use Rattle.mc_flow.specs.Steps.{Step, start}
use Rattle.mc_flow.specs.Valid.{IsValid}
use Rattle.mc_state.specs.Known.{Test, Tells}
use Rattle.mc_state.specs.State.{State}
use Rattle.mc_rules_steps.specs.declared.gap.Gap.{Gap}
use Rattle.mc_rules_steps.specs.declared.gap.Gap.TheVariants.{NoShape}
use Rattle.mc_rules_steps.specs.Unmet.{IsUnmet}
use Rattle.mc_exact.specs.Least.{least}
use Rattle.mc_exact.specs.Exact.{Picks, IsExactBranch}

-- malloc's answer to a run: null, which is 0, or as address the number of the least node that is known to be equal
abbrev pub answered : Test → Option NodeId → ℕ
answered know None = 0
answered know (Some n) = least know n

abbrev pub scripted : Test → Option NodeId → Choice
scripted know pick = malloc (answered know pick)

-- by the flow graph the run with these choices has a fault at the point, within so many steps
abbrev pub FaultsWith : Flow → List Def → PointId → List Choice → ℕ → Type 0
FaultsWith flow defs p choices steps =
    (point : Point) × (kind : FaultKind) × (m : ℕ) × (slice_get flow.points p.0 ≡ Some point) × (m ≤ steps)
    × Reaches (Step flow defs) m (start flow) choices (fault kind point.place)

-- a flow graph of which each run has an end, and which is no larger than those that are analysed
pub record IsShort (flow : Flow) : Type 0 where
  pub no_loops : flow.heads ≡ []
  pub few : length flow.points ≤ 10000

-- where an instruction lacks something other than a shape at an exact branch's state, the run faults there to which malloc
-- answers what it answered on the branch, by what is known in that state
abbrev pub AlarmsAreReal : Type 0
AlarmsAreReal =
    (flow : Flow) (defs : List Def) (p : PointId) (s : State) (picks : Picks) (know : Test) (gap : Gap)
    → IsValid flow defs → IsShort flow → IsExactBranch flow p s picks → Tells know s
    → IsUnmet flow defs p s gap → ((pred : PredId) (n : NodeId) → gap ≡ NoShape pred n → ⊥)
    → FaultsWith flow defs p (map (scripted know) picks) (suc p.0)
