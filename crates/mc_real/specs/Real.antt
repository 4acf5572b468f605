-- Alarms of programs without loops, and the runs that fault there.
use Rattle.std.specs.Prelude.{◌≡◌, ◌≤◌, ℕ, List, [], Some, map, length, slice_get}
use Rattle.mc_base.specs.declared.ids.NodeId.{NodeId}
use Rattle.mc_base.specs.declared.ids.PointId.{PointId}
use Rattle.mc_base.specs.declared.ids.PredId.{PredId}
use Rattle.mc_base.specs.declared.plain.FaultKind.{FaultKind}
use Rattle.mc_flow.specs.Heap.Choices.{malloc}
use Rattle.mc_flow.specs.Runs.{fault, Reaches}
use Rattle.mc_flow.specs.declared.defs.rules.Def.{Def}
use Rattle.mc_flow.specs.declared.graph.Flow.{Flow}
use Rattle.mc_flow.specs.declared.graph.Point.{Point}
use Rattle.mc_flow.specs.Valid.{IsValid}
use Rattle.mc_c_syntax.specs.Ast.Trees.{FunctionTree, UnitTree}
use Rattle.mc_c_grammar.specs.Places.Places.{AreDistinct, declared_places}
use Rattle.mc_c_types.specs.Tables.{called_function, struct_infos, tables_of}
use Rattle.mc_c_types.specs.Typing.{IsWellTyped}
use Rattle.mc_semantics.specs.Steps.{program_of, start, Step}
use Rattle.mc_semantics.specs.Resolved.Programs.{Function}
use Rattle.mc_semantics.specs.Resolved.Resolving.{resolved_program}
use Rattle.mc_lower_spec.specs.Graphs.{Graph}
use Rattle.mc_lower_spec.specs.Lowering.{IsLowering}
use Rattle.mc_lower_laws.specs.Closed.{IsClosed}
use Rattle.mc_state.specs.Known.{Test, Tells}
use Rattle.mc_rules_steps.specs.declared.gap.Gap.{Gap}
use Rattle.mc_rules_steps.specs.declared.gap.Gap.TheVariants.{NoShape}
use Rattle.mc_rules_steps.specs.Unmet.{IsUnmet}
use Rattle.mc_lines.specs.declared.cert.line.Line.TheVariants as line
use Rattle.mc_kernel.specs.Branches.{Path, Setting}
use Rattle.mc_kernel.specs.Instances.{IsInstance}
use Rattle.mc_exact.specs.Exact.{Picks}
use Rattle.mc_exact.specs.Real.{answered}
use Rattle.mc_exact.specs.Tracks.{IsExactTrack}
use Rattle.mc_run_values.specs.Values.Taking.{Takes}
use Rattle.mc_run.specs.declared.interpret.ending.Ending.{Ending}
use Rattle.mc_run.specs.declared.interpret.ending.Ending.TheVariants.{Fault}
use Rattle.mc_run.specs.Interpret.Programs.{ProgramRuns}

-- a well typed program that is closed, with its valid flow graph, which is no larger than those that are analysed
pub record IsClosedProgram (unit : UnitTree) (entry : List ℕ) (defs : List Def) (g : Graph) : Type 0 where
  pub typed : IsWellTyped unit entry
  pub distinct : AreDistinct (declared_places unit)
  pub begins : FunctionTree
  pub called : called_function (tables_of unit) entry ≡ Some begins
  pub resolved : g.program ≡ resolved_program (tables_of unit) defs entry
  pub function : Function
  pub out : ℕ
  pub count : ℕ
  pub lowered : IsLowering g function out count
  pub closed : IsClosed g.program
  pub valid : IsValid g.flow defs
  pub few : length g.flow.points ≤ 10000

-- a well typed program with its valid flow graph, which has no loops and is no larger than those that are analysed
pub record IsShortProgram (unit : UnitTree) (entry : List ℕ) (defs : List Def) (g : Graph) : Type 0 where
  pub typed : IsWellTyped unit entry
  pub distinct : AreDistinct (declared_places unit)
  pub begins : FunctionTree
  pub called : called_function (tables_of unit) entry ≡ Some begins
  pub resolved : g.program ≡ resolved_program (tables_of unit) defs entry
  pub function : Function
  pub out : ℕ
  pub count : ℕ
  pub lowered : IsLowering g function out count
  pub no_loops : g.flow.heads ≡ []
  pub valid : IsValid g.flow defs
  pub few : length g.flow.points ≤ 10000

-- an instruction lacks something other than a shape at an exact branch's state
pub record IsRealGap (flow : Flow) (defs : List Def) (b : Path) (picks : Picks) (know : Test) : Type 0 where
  pub exact : IsExactTrack flow (b, picks)
  pub known : Tells know b.state
  pub gap : Gap
  pub lacks : IsUnmet flow defs b.point b.state gap
  pub no_shape : (pred : PredId) (n : NodeId) → gap ≡ NoShape pred n → ⊥

-- the program's run with these answers of malloc has a fault at the point, within 20,000 steps: so the program is not safe
abbrev pub FaultsInRun : UnitTree → (entry : List ℕ) → List Def → Flow → PointId → (answers : List ℕ) → Type 0
FaultsInRun unit entry defs flow p answers =
    (begins : FunctionTree) × (point : Point) × (kind : FaultKind) × (steps : ℕ)
    × (called_function (tables_of unit) entry ≡ Some begins) × (slice_get flow.points p.0 ≡ Some point) × (steps ≤ 20000)
    × Reaches (Step (program_of unit defs)) steps (start (program_of unit defs) begins) (map malloc answers)
    (fault kind point.place)

-- with 20,000 units of fuel, of which a step takes one, the program comes to a fault at the point, with every script whose lines
-- mean these answers of malloc
abbrev pub FaultsOnScripts : UnitTree → (entry : List ℕ) → List Def → Flow → PointId → (answers : List ℕ) → Type 0
FaultsOnScripts unit entry defs flow p answers =
    (point : Point) × (kind : FaultKind) × (steps : ℕ) × (slice_get flow.points p.0 ≡ Some point) × (steps ≤ 20000)
    × ((script : List (List ℕ)) (fuel : ℕ) (ending : Ending)
    → steps ≤ fuel → Takes (struct_infos unit) script (map malloc answers) []
    → ProgramRuns unit entry defs script fuel ending → ending ≡ Fault kind point.place)

-- where something other than a shape is lacking on an exact branch of a program without loops, the program's run with the
-- answers of malloc that the branch has faults there
abbrev pub ExactAlarmsAreReached : Type 0
ExactAlarmsAreReached =
    (unit : UnitTree) (entry : List ℕ) (defs : List Def) (g : Graph) (b : Path) (picks : Picks) (know : Test)
    → IsShortProgram unit entry defs g → IsRealGap g.flow defs b picks know
    → FaultsInRun unit entry defs g.flow b.point (map (answered know) picks)

-- and so the program faults with each script of these answers
abbrev pub ExactAlarmsAreReal : Type 0
ExactAlarmsAreReal =
    (unit : UnitTree) (entry : List ℕ) (defs : List Def) (g : Graph) (b : Path) (picks : Picks) (know : Test)
    → IsShortProgram unit entry defs g → IsRealGap g.flow defs b picks know
    → FaultsOnScripts unit entry defs g.flow b.point (map (answered know) picks)

-- where an exact branch of a closed program is stuck, the program faults, with the answers of malloc that the branch has
abbrev pub ClosedAlarmsAreReal : Type 0
ClosedAlarmsAreReal =
    (unit : UnitTree) (entry : List ℕ) (defs : List Def) (g : Graph) (setting : Setting) (b : Path) (next : List Path)
    (picks : Picks) (know : Test)
    → IsClosedProgram unit entry defs g → IsExactTrack g.flow (b, picks) → Tells know b.state
    → IsInstance g.flow defs setting line.C1 b next
    → FaultsOnScripts unit entry defs g.flow b.point (map (answered know) picks)
