-- Alarms that carry answers of malloc, and the runs that fault there.
use Rattle.std.specs.Prelude.{◌≡◌, ◌≤◌, ℕ, List, Some, map, slice_get}
use Rattle.mc_base.specs.declared.ids.PointId.{PointId}
use Rattle.mc_base.specs.declared.plain.FaultKind.{FaultKind}
use Rattle.mc_flow.specs.Heap.Choices.{malloc}
use Rattle.mc_flow.specs.Runs.{fault, Reaches}
use Rattle.mc_flow.specs.declared.defs.rules.Def.{Def}
use Rattle.mc_flow.specs.declared.graph.Flow.{Flow}
use Rattle.mc_flow.specs.declared.graph.Point.{Point}
use Rattle.mc_c_syntax.specs.Ast.Trees.{FunctionTree, UnitTree}
use Rattle.mc_c_types.specs.Tables.{called_function, tables_of}
use Rattle.mc_semantics.specs.Steps.{Step, program_of, start}
use Rattle.mc_lower_spec.specs.Graphs.{Graph}
use Rattle.mc_kernel.specs.Branches.{Path}
use Rattle.mc_exact.specs.Marks.{IsExactAlarm}
use Rattle.mc_exact.specs.Scripts.{malloc_lines}
use Rattle.mc_run.specs.declared.interpret.ending.Ending.{Ending}
use Rattle.mc_run.specs.declared.interpret.ending.Ending.TheVariants.{Fault}
use Rattle.mc_run.specs.Interpret.Programs.{ProgramRuns}
use Rattle.mc_real.specs.Real.{IsShortProgram}

-- the program faults at the place of the point where malloc answers so: it has such a run, and that is what it comes to with the
-- script of these answers and 20,000 units of fuel or more
pub record FaultsOn (entry : List ℕ) (unit : UnitTree) (defs : List Def) (flow : Flow) (p : PointId)
    (answers : List ℕ) : Type 0 where
  pub point : Point
  pub is_its : slice_get flow.points p.0 ≡ Some point
  pub kind : FaultKind
  pub f : FunctionTree
  pub called : called_function (tables_of unit) entry ≡ Some f
  pub steps : ℕ
  pub faults : Reaches (Step (program_of unit defs)) steps (start (program_of unit defs) f) (map malloc answers)
      (fault kind point.place)
  pub answered : (fuel : ℕ) (ending : Ending) → 20000 ≤ fuel
      → ProgramRuns unit entry defs (malloc_lines answers) fuel ending → ending ≡ Fault kind point.place

-- where an alarm is exact and carries these answers, the program faults there with them
abbrev pub MarkedAlarmsAreReal : Type 0
MarkedAlarmsAreReal =
    (entry : List ℕ) (unit : UnitTree) (defs : List Def) (g : Graph) (b : Path) (answers : List ℕ)
    → IsShortProgram unit entry defs g → IsExactAlarm g.flow defs b answers → FaultsOn entry unit defs g.flow b.point answers
