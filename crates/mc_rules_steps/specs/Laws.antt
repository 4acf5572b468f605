-- What holds of the rules of instructions.
use Rattle.std.specs.Prelude.{◌≡◌, ℕ, List, Some, None, slice_get}
use Rattle.std.specs.List.{AllByRecursion}
use Rattle.mc_base.specs.declared.ids.PointId.{PointId}
use Rattle.mc_base.specs.declared.ids.PredId.{PredId}
use Rattle.mc_base.specs.declared.ids.NodeId.{NodeId}
use Rattle.mc_base.specs.Nodes.{Valuation}
use Rattle.mc_flow.specs.Runs as runs
use Rattle.mc_flow.specs.Heap.Choices.{Choice}
use Rattle.mc_flow.specs.Heap.Heap.{HasAddresses, region_of}
use Rattle.mc_flow.specs.declared.defs.rules.Def.{Def}
use Rattle.mc_flow.specs.declared.graph.Flow.{Flow}
use Rattle.mc_flow.specs.Steps.{Config, Result, Step}
use Rattle.mc_flow.specs.Valid.{IsValid}
use Rattle.mc_state.specs.declared.goal.Goal.{Goal}
use Rattle.mc_state.specs.declared.line.InstrRule.{InstrRule}
use Rattle.mc_state.specs.State.{State}
use Rattle.mc_state.specs.Fits.{IsBounded}
use Rattle.mc_state.specs.Stands.{StandsBy}
use Rattle.mc_state.specs.Rules.{GoalHolds, GoalIsThere}
use Rattle.mc_rules_steps.specs.declared.gap.Gap.{Gap}
use Rattle.mc_rules_steps.specs.declared.gap.Gap.TheVariants.{NoShape}
use Rattle.mc_rules_steps.specs.Next.{Next}
use Rattle.mc_rules_steps.specs.Steps.{StepIs}
use Rattle.mc_rules_steps.specs.Unmet.{IsUnmet}

-- an instance of one of the rules of instructions
abbrev pub IsStep : Flow → PointId → State → List Next → Type 0
IsStep flow p s next = (rule : InstrRule) × StepIs rule flow p s next

-- the configuration is at the point, its blocks are at addresses, and it stands for the state
pub record IsAt (defs : List Def) (v : Valuation) (c : Config) (p : PointId) (s : State) : Type 0 where
  pub point : c.point ≡ p.0
  pub addresses : HasAddresses c.heap
  pub stands : StandsBy defs v c.vars (region_of c.heap) s

-- the configuration is at a successor that is no side branch
abbrev pub IsAtSome : List Def → Config → List Next → Type 0
IsAtSome defs c next =
    (place : ℕ) × (n : Next) × (v : Valuation) × (slice_get next place ≡ Some n) × (n.goal ≡ None) × IsAt defs v c n.point n.state

-- a step has no fault, and one that goes on leads to a successor
abbrev pub LeadsOn : List Def → List Next → Result → Type 0
LeadsOn defs next (runs.next d choices) = IsAtSome defs d next
LeadsOn defs next (runs.last runs.ended) = Unit {0}
LeadsOn defs next (runs.last runs.stopped) = Unit {0}
LeadsOn defs next (runs.last (runs.fault kind place)) = ⊥

-- whatever stands for a side branch has its goal
abbrev pub SidesHold : List Def → Config → List Next → Type 0
SidesHold defs c next =
    (place : ℕ) (n : Next) (goal : Goal) (w : Valuation)
    → slice_get next place ≡ Some n → n.goal ≡ Some goal → IsAt defs w c n.point n.state → GoalHolds defs w (region_of c.heap) goal

-- where a rule applies, no configuration at the state faults, and each step leads on; side branches that are ended may be used
abbrev pub StepsAreSound : Type 0
StepsAreSound =
    (flow : Flow) (defs : List Def) (p : PointId) (s : State) (next : List Next) (v : Valuation) (c : Config)
    (choices : List Choice) (r : Result)
    → IsValid flow defs → IsBounded s → IsStep flow p s next → IsAt defs v c p s → SidesHold defs c next
    → Step flow defs c choices r → LeadsOn defs next r

-- the successors' numbers are in their bounds, and a goal's nodes are there
abbrev pub StepsStayBounded : Type 0
StepsStayBounded =
    (flow : Flow) (defs : List Def) (p : PointId) (s : State) (next : List Next)
    → IsBounded s → IsStep flow p s next → AllByRecursion (λ n. IsBounded n.state × GoalIsThere n.goal n.state) next

-- an unmet instruction has no instance of its rule, where it is no shape that it lacks
abbrev pub UnmetHasNoStep : Type 0
UnmetHasNoStep =
    (flow : Flow) (defs : List Def) (p : PointId) (s : State) (next : List Next) (gap : Gap)
    → IsUnmet flow defs p s gap → ((pred : PredId) (n : NodeId) → gap ≡ NoShape pred n → ⊥) → IsStep flow p s next → ⊥
