-- The alarms of programs without loops are real, those of closed programs among them.
use Rattle.std.proofs.Common.{◌≡◌, ◌*◌, ◌≤◌, ℕ, List, [], ◌∷◌, Option, Some, map, length, refl, ap, subst, arith}
use Rattle.std.proofs.lemmas.List.Elements.{All-weaker}
use Rattle.mc_base.specs.declared.ids.NodeId.{NodeId}
use Rattle.mc_flow.specs.Heap.Choices.{Choice, malloc}
use Rattle.mc_flow.specs.Runs.{Reaches, fault}
use Rattle.mc_flow.specs.declared.defs.rules.Def.{Def}
use Rattle.mc_flow.specs.declared.graph.Point.{Point}
use Rattle.mc_flow.specs.declared.instr.Instr.{Instr}
use Rattle.mc_flow.specs.declared.instr.Instr.TheVariants as instr
use Rattle.mc_c_syntax.specs.Ast.Trees.{FunctionTree, UnitTree}
use Rattle.mc_c_grammar.specs.Places.Places.{AreDistinct, declared_places}
use Rattle.mc_c_types.specs.Tables.{called_function, tables_of}
use Rattle.mc_c_types.specs.Typing.{IsWellTyped}
use Rattle.mc_semantics.specs.Resolved.Programs.{Function}
use Rattle.mc_semantics.specs.Resolved.Resolving.{resolved_program}
use Rattle.mc_semantics.specs.Steps as named
use Rattle.mc_semantics.specs.Steps.{program_of}
use Rattle.mc_lower_spec.specs.Graphs.{Graph}
use Rattle.mc_lower_spec.specs.Lowering.{IsLowering}
use Rattle.mc_lower_laws.specs.Closed.{IsClosed as IsClosedProgram, IsClosedCode, IsClosedFlow}
use Rattle.mc_state.specs.Known.{Test}
use Rattle.mc_exact.specs.Real.{answered, scripted, AlarmsAreReal, IsShort}
use Rattle.mc_exact.specs.Tracks.{IsClosed, AsksMallocAlone, StuckLacks}
use Rattle.mc_run.specs.Interpret.Faults.{FaultsAreAnswered}
use Rattle.mc_real.specs.Near.{FlowFaultsAreNear}
use Rattle.mc_real.specs.Real.{ClosedAlarmsAreReal, ExactAlarmsAreReached, ExactAlarmsAreReal, IsRealGap, IsShortProgram}

-- what the instructions of closed programs ask for is said in two crates alike
pub closed_code : (code : Instr) → IsClosedCode code → IsClosed code
closed_code (instr.Skip q) is = tt
closed_code (instr.Copy x o q) is = tt
closed_code (instr.Undef xs q) is = tt
closed_code (instr.Input x q) is = absurd is
closed_code (instr.Add x o p q) is = tt
closed_code (instr.Sub x o p q) is = tt
closed_code (instr.Mul x o p q) is = tt
closed_code (instr.Load x y s f q) is = tt
closed_code (instr.Store y s f o q) is = tt
closed_code (instr.Malloc x s q) is = tt
closed_code (instr.Free o q) is = tt
closed_code (instr.TestEq o p t f) is = tt
closed_code (instr.TestLe o p t f) is = tt
closed_code (instr.AssumeShape pred x os q) is = absurd is
closed_code (instr.AssertShape pred o os q) is = absurd is
closed_code (instr.AssertEmpty q) is = tt
closed_code instr.End is = tt
closed_code instr.Fail is = tt

scripted_all : (know : Test) (picks : List (Option NodeId)) → map (scripted know) picks ≡ map malloc (map (answered know) picks)
scripted_all know [] = refl
scripted_all know (pick ∷ picks) = ap (λ (l : List Choice). scripted know pick ∷ l) (scripted_all know picks)

-- the laws of lower crates
abbrev pub ClosedLowered : Type 0
ClosedLowered = (g : Graph) (entry : Function) (out count : ℕ) → IsClosedProgram g.program → IsLowering g entry out count
    → IsClosedFlow g.flow

abbrev pub FaultsAreTheirs : Type 0
FaultsAreTheirs =
    (unit : UnitTree) (defs : List Def) (entry : List ℕ) (f : FunctionTree) (g : Graph) (start : Function) (out count : ℕ)
    → IsWellTyped unit entry → AreDistinct (declared_places unit)
    → called_function (tables_of unit) entry ≡ Some f → g.program ≡ resolved_program (tables_of unit) defs entry
    → IsLowering g start out count → g.flow.heads ≡ []
    → FlowFaultsAreNear g.flow defs (program_of unit defs) f

-- the fault of the flow graph is one of the program, and is near
pub exact_reached : AlarmsAreReal → FaultsAreTheirs → ExactAlarmsAreReached
exact_reached real theirs unit entry defs g b picks know is at =
    let short : IsShort g.flow = record { no_loops = is.no_loops; few = is.few } in
    let f = real g.flow defs b.point b.state picks know at.gap is.valid short at.exact.1 at.known at.lacks at.no_shape in
    let run =
    theirs unit defs entry is.begins g is.function is.out is.count is.typed is.distinct is.called is.resolved is.lowered
    is.no_loops f.2 (map (scripted know) picks) f.1 f.0.place f.5 in
    let steps : ℕ = 2 * length g.flow.points in
    let soon : steps ≤ 20000 = omega (arith, is.few) in (
      is.begins,
      f.0,
      f.1,
      steps,
      is.called,
      f.3,
      soon,
      subst (λ (l : List Choice). Reaches (named.Step (program_of unit defs)) steps
          (named.start (program_of unit defs) is.begins) l (fault f.1 f.0.place)) (scripted_all know picks) run,
    )

-- and is answered on scripts
pub exact_alarms : ExactAlarmsAreReached → FaultsAreAnswered → ExactAlarmsAreReal
exact_alarms reached interpreted unit entry defs g b picks know is at =
    let f = reached unit entry defs g b picks know is at in (
      f.1,
      f.2,
      f.3,
      f.5,
      f.6,
      λ script fuel ending enough takes runs. interpreted unit entry defs f.0
          (map (answered know) picks) script f.3 fuel f.2 f.1.place ending is.typed f.4 f.7 enough takes runs,
    )

-- a stuck branch of a closed program lacks something, and that is no shape
pub closed_alarms : StuckLacks → ClosedLowered → ExactAlarmsAreReal → ClosedAlarmsAreReal
closed_alarms lacking closed real unit entry defs g setting b next picks know is exact tells stuck =
    let c = closed g is.function is.out is.count is.closed is.lowered in
    let asks : AsksMallocAlone g.flow =
    All-weaker (λ (x : Point). IsClosedCode x.code) (λ (x : Point). IsClosed x.code)
    (λ x h. closed_code x.code h) g.flow.points c.points in
    let lacks = lacking g.flow defs setting b next asks stuck in
    let short : IsShortProgram unit entry defs g =
    record {
      typed = is.typed;
      distinct = is.distinct;
      begins = is.begins;
      called = is.called;
      resolved = is.resolved;
      function = is.function;
      out = is.out;
      count = is.count;
      lowered = is.lowered;
      no_loops = c.no_loops;
      valid = is.valid;
      few = is.few;
    } in
    let gap : IsRealGap g.flow defs b picks know =
    record { exact = exact; known = tells; gap = lacks.0; lacks = lacks.1; no_shape = lacks.2 } in
    real unit entry defs g b picks know short gap
