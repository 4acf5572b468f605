-- Faults of a program and of its flow graph.
use Rattle.std.specs.Prelude.{ℕ, List}
use Rattle.mc_base.specs.declared.plain.FaultKind.{FaultKind}
use Rattle.mc_base.specs.declared.text.place.Place.{Place}
use Rattle.mc_c_syntax.specs.Ast.Trees.{FunctionTree}
use Rattle.mc_flow.specs.Heap.Choices.{Choice}
use Rattle.mc_flow.specs.Runs.{fault, Reaches}
use Rattle.mc_flow.specs.Steps as flow
use Rattle.mc_flow.specs.declared.defs.rules.Def.{Def}
use Rattle.mc_flow.specs.declared.graph.Flow.{Flow}
use Rattle.mc_semantics.specs.Configs.{Program}
use Rattle.mc_semantics.specs.Steps.{Step, start}

-- every fault of the program is one of the flow graph, to which the run with the same choices comes
abbrev pub FaultsAreIn : Flow → List Def → Program → FunctionTree → Type 0
FaultsAreIn graph defs program entry =
    (n : ℕ) (choices : List Choice) (kind : FaultKind) (place : Place)
    → Reaches (Step program) n (start program entry) choices (fault kind place)
    → (m : ℕ) × Reaches (flow.Step graph defs) m (flow.start graph) choices (fault kind place)

-- every fault of the flow graph is one of the program, to which the run with the same choices comes
abbrev pub FlowFaultsAreIn : Flow → List Def → Program → FunctionTree → Type 0
FlowFaultsAreIn graph defs program entry =
    (n : ℕ) (choices : List Choice) (kind : FaultKind) (place : Place)
    → Reaches (flow.Step graph defs) n (flow.start graph) choices (fault kind place)
    → (m : ℕ) × Reaches (Step program) m (start program entry) choices (fault kind place)
