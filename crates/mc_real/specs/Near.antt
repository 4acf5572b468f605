-- How near ends and faults are in programs whose flow graphs have no loops.
use Rattle.std.specs.Prelude.{◌*◌, ℕ, List, length}
use Rattle.mc_base.specs.declared.plain.FaultKind.{FaultKind}
use Rattle.mc_base.specs.declared.text.place.Place.{Place}
use Rattle.mc_c_syntax.specs.Ast.Trees.{FunctionTree}
use Rattle.mc_flow.specs.Heap.Choices.{Choice}
use Rattle.mc_flow.specs.Runs.{Final, fault, Reaches}
use Rattle.mc_flow.specs.Steps as flow
use Rattle.mc_flow.specs.declared.defs.rules.Def.{Def}
use Rattle.mc_flow.specs.declared.graph.Flow.{Flow}
use Rattle.mc_semantics.specs.Configs.{Program}
use Rattle.mc_semantics.specs.Resolved.Programs.{Function}
use Rattle.mc_semantics.specs.Resolved.Steps as resolved
use Rattle.mc_semantics.specs.Steps.{Step, start}
use Rattle.mc_lower_spec.specs.Graphs.{Graph}

-- each run of the resolved program that comes to an end does so within two steps for each point of the flow graph
abbrev pub RunsAreShort : Graph → Function → Type 0
RunsAreShort g entry =
    (n : ℕ) (choices : List Choice) (final : Final)
    → Reaches (resolved.Step g.program) n (resolved.start entry) choices final
    → Reaches (resolved.Step g.program) (2 * length g.flow.points) (resolved.start entry) choices final

-- every fault of the flow graph is one of the program, to which the run with the same choices comes within two steps for
-- each point
abbrev pub FlowFaultsAreNear : Flow → List Def → Program → FunctionTree → Type 0
FlowFaultsAreNear graph defs program entry =
    (n : ℕ) (choices : List Choice) (kind : FaultKind) (place : Place)
    → Reaches (flow.Step graph defs) n (flow.start graph) choices (fault kind place)
    → Reaches (Step program) (2 * length graph.points) (start program entry) choices (fault kind place)
