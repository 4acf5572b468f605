-- What blocked branches mean for the runs of a program.
use Rattle.std.specs.Prelude.{◌≡◌, ℕ, List, Some}
use Rattle.mc_base.specs.declared.plain.FaultKind.{FaultKind}
use Rattle.mc_base.specs.declared.text.place.Place.{Place}
use Rattle.mc_c_syntax.specs.Ast.Trees.{FunctionTree, UnitTree}
use Rattle.mc_c_types.specs.Tables.{called_function, tables_of}
use Rattle.mc_flow.specs.Heap.Choices.{Choice}
use Rattle.mc_flow.specs.Runs.{fault, Reaches}
use Rattle.mc_flow.specs.Steps as flow
use Rattle.mc_flow.specs.declared.defs.rules.Def.{Def}
use Rattle.mc_flow.specs.declared.graph.Flow.{Flow}
use Rattle.mc_kernel.specs.Branches.{Path}
use Rattle.mc_kernel.specs.Certificates.{IsAtStuck, Visits}
use Rattle.mc_semantics.specs.Steps.{Step, program_of, start}

-- every run of the program from its entry that has a fault comes by one of these branches: the run of its flow graph with the same
-- choices has the fault too, and is at the point of such a branch and satisfies its state, at the fault or before it
abbrev pub FaultsComeBy : (entry : List ℕ) → UnitTree → List Def → Flow → List Path → Type 0
FaultsComeBy entry unit defs graph stuck =
    (f : FunctionTree) (n : ℕ) (choices : List Choice) (kind : FaultKind) (place : Place)
    → called_function (tables_of unit) entry ≡ Some f
    → Reaches (Step (program_of unit defs)) n (start (program_of unit defs) f) choices (fault kind place)
    → (m : ℕ) × Visits (IsAtStuck defs stuck) graph defs m (flow.start graph) choices (fault kind place)
