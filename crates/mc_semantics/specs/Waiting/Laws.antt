-- What is known of all runs.
use Rattle.std.specs.Prelude.{◌≡◌, ℕ, suc, List, Some}
use Rattle.mc_flow.specs.Runs.{Final, Reaches}
use Rattle.mc_flow.specs.Heap.Choices.{Choice}
use Rattle.mc_flow.specs.declared.defs.rules.Def.{Def}
use Rattle.mc_flow.specs.declared.graph.Flow.{Flow}
use Rattle.mc_flow.specs.Steps as graph
use Rattle.mc_flow.specs.Valid.{IsValid}
use Rattle.mc_c_syntax.specs.Ast.Trees.{FunctionTree, UnitTree}
use Rattle.mc_c_types.specs.Tables.{called_function, tables_of}
use Rattle.mc_c_types.specs.Typing.{IsWellTyped}
use Rattle.mc_semantics.specs.Configs.{Config, Program}
use Rattle.mc_semantics.specs.Steps.{Step, program_of, start}
use Rattle.mc_semantics.specs.Waiting.Flows as flows
use Rattle.mc_semantics.specs.Waiting.Requests.{Waits}
use Rattle.mc_semantics.specs.Waiting.Runs.{Machine, HasEnded, MakesStep, Leads, ComesTo, IsOneOf}
use Rattle.mc_semantics.specs.Waiting.Trees.{Asks}

-- ---- no run stops for want of a definition
-- with these choices left a program makes a step, has ended, or waits for a choice: exactly one of the three
abbrev pub StepsEndsOrWaits : Program → Config → List Choice → Type 0
StepsEndsOrWaits p c left = IsOneOf (MakesStep (Step p) c left) (HasEnded (Step p) c left) (Waits (Asks p c left))

abbrev pub FlowStepsEndsOrWaits : Flow → List Def → graph.Config → List Choice → Type 0
FlowStepsEndsOrWaits flow defs c left =
    IsOneOf
    (MakesStep (graph.Step flow defs) c left)
    (HasEnded (graph.Step flow defs) c left)
    (Waits (flows.Asks flow defs c left))

-- so it is wherever the run of a well typed program, or of a valid flow graph, has come to
abbrev pub ProgramsStepEndOrWait : Type 0
ProgramsStepEndOrWait =
    (unit : UnitTree) (entry : List ℕ) (defs : List Def) (f : FunctionTree)
    → IsWellTyped unit entry → called_function (tables_of unit) entry ≡ Some f
    → (n : ℕ) (choices left : List Choice) (c : Config)
    → Leads (Step (program_of unit defs)) n (start (program_of unit defs) f) choices c left
    → StepsEndsOrWaits (program_of unit defs) c left

abbrev pub FlowsStepEndOrWait : Type 0
FlowsStepEndOrWait =
    (flow : Flow) (defs : List Def) → IsValid flow defs → (n : ℕ) (choices left : List Choice) (c : graph.Config)
    → Leads (graph.Step flow defs) n (graph.start flow) choices c left → FlowStepsEndsOrWaits flow defs c left

-- ---- ends
-- a run comes to one end at most, in one number of steps
abbrev pub ComesToOneEnd : {C K : Type 0} → Machine C K → Type 0
ComesToOneEnd {C} {K} Steps =
    (n m : ℕ) (c : C) (choices : List K) (f g : Final)
    → ComesTo Steps n c choices f → ComesTo Steps m c choices g → (n ≡ m) × (f ≡ g)

-- what it comes to in so many steps it reaches within one more, and what it reaches it comes to
abbrev pub ReachesItsEnd : {C K : Type 0} → Machine C K → Type 0
ReachesItsEnd {C} {K} Steps =
    (n : ℕ) (c : C) (choices : List K) (f : Final) → ComesTo Steps n c choices f → Reaches Steps (suc n) c choices f

abbrev pub ComesToItsEnd : {C K : Type 0} → Machine C K → Type 0
ComesToItsEnd {C} {K} Steps =
    (n : ℕ) (c : C) (choices : List K) (f : Final) → Reaches Steps n c choices f → (m : ℕ) × ComesTo Steps m c choices f
