-- The alarms of a report that carry answers of malloc are real, and those of closed programs all carry some.
use Rattle.std.proofs.Common.{◌≡◌, ◌∙◌, ◌≤◌, ℕ, Bool, true, false, List, [], ◌∷◌, Some, None, length, map, refl, sym, subst}
use Rattle.std.proofs.lemmas.List.Elements.{All-weaker}
use Rattle.std.specs.List.{AllByRecursion}
use Rattle.mc_base.specs.declared.ids.PointId.{PointId}
use Rattle.mc_c_syntax.specs.Ast.Trees.{UnitTree}
use Rattle.mc_flow.specs.declared.defs.rules.Def.{Def}
use Rattle.mc_flow.specs.declared.graph.Flow.{Flow}
use Rattle.mc_flow.specs.declared.graph.Point.{Point}
use Rattle.mc_flow.specs.Valid.{IsValid}
use Rattle.mc_c_grammar.specs.Places.Places.{declared_places}
use Rattle.mc_semantics.specs.Resolved.Programs.{Function, Program}
use Rattle.mc_lower_spec.specs.Graphs.{Graph}
use Rattle.mc_lower_spec.specs.Lowering.{IsLowering}
use Rattle.mc_lower_laws.specs.Closed.{IsClosed, IsClosedCode, IsClosedFlow}
use Rattle.mc_kernel.specs.Branches.{Path}
use Rattle.mc_exact.specs.Marks.{Alarm, ClosedAlarmsAreMarked, IsRightAlarm, MarksAreExact, unmarked}
use Rattle.mc_exact.specs.Tracks.{AsksMallocAlone, IsClosed as IsClosedInstr}
use Rattle.mc_find.specs.Analysis.Findings.{HasAlarms, IsFollowedWhole}
use Rattle.mc_find.specs.declared.analysis.analysis.Findings.{Findings}
use Rattle.mc_load.specs.Inputs.Texts.{IsWellFormed}
use Rattle.mc_load.specs.Lowered.Graphs.{IsGraphOf}
use Rattle.mc_real.specs.Marked.{FaultsOn, MarkedAlarmsAreReal}
use Rattle.mc_real.specs.Real.{IsShortProgram}
use Rattle.mc_real.proofs.ExactAlarms.{closed_code}
use Rattle.mc_app.specs.Real.{AreReal, IsClosedUnit, IsRealAlarm}
use Rattle.mc_app.proofs.Safe.{Differ, ReadApart, has_entry}

-- closed programs have flow graphs without loops that ask for malloc alone
abbrev pub ClosedLowered : Type 0
ClosedLowered = (g : Graph) (entry : Function) (out count : ℕ) → IsClosed g.program → IsLowering g entry out count → IsClosedFlow g.flow

-- the laws of lower crates
pub record RealLaws : Type 0 where
  pub differ : Differ
  pub apart : ReadApart
  pub exact : MarksAreExact
  pub marked : ClosedAlarmsAreMarked
  pub real : MarkedAlarmsAreReal
  pub closed : ClosedLowered

module _ (laws : RealLaws) (start : List ℕ) (unit : UnitTree) (defs : List Def) (flow : Flow) (sound : IsWellFormed start unit) (graph : IsGraphOf start unit defs flow) (valid : IsValid flow defs) (few : length flow.points ≤ 10000) where
  -- the program with its flow graph
  short : flow.heads ≡ [] → IsShortProgram unit start defs graph.graph
  short no_loops =
      let main = has_entry unit start sound.typed in
      record {
        typed = sound.typed;
        distinct = laws.differ (declared_places unit) (laws.apart sound.text unit sound.read);
        begins = main.0;
        called = main.1;
        resolved = graph.program;
        function = graph.function;
        out = graph.out;
        count = graph.count;
        lowered = graph.lowered;
        no_loops = subst (λ (f : Flow). f.heads ≡ []) (sym graph.is_its) no_loops;
        valid = subst (λ (f : Flow). IsValid f defs) (sym graph.is_its) valid;
        few = subst (λ (f : Flow). length f.points ≤ 10000) (sym graph.is_its) few;
      }

  one_real : flow.heads ≡ [] → (a : Alarm) → IsRightAlarm flow defs a → IsRealAlarm start unit defs flow a
  one_real no_loops (b, None) right = tt
  one_real no_loops (b, Some answers) right =
      let right_there = subst (λ (f : Flow). IsRightAlarm f defs (b, Some answers)) (sym graph.is_its) right in
      subst (λ (f : Flow). FaultsOn start unit defs f b.point answers) graph.is_its (laws.real start unit defs graph.graph b answers (short no_loops) right_there)

  all_real : flow.heads ≡ [] → (alarms : List Alarm) → AllByRecursion (IsRightAlarm flow defs) alarms → AllByRecursion (IsRealAlarm start unit defs flow) alarms
  all_real no_loops [] right = tt
  all_real no_loops (a ∷ alarms) right = (one_real no_loops a right.0, all_real no_loops alarms right.1)

  -- an alarm without answers says nothing
  none_real : (stuck : List Path) → AllByRecursion (IsRealAlarm start unit defs flow) (map unmarked stuck)
  none_real [] = tt
  none_real (b ∷ stuck) = (tt, none_real stuck)

  closed_flow : IsClosedUnit start unit defs → IsClosedFlow flow
  closed_flow closed =
      let there = subst (λ (p : Program). IsClosed p) (sym graph.program) closed in
      subst (λ (f : Flow). IsClosedFlow f) graph.is_its (laws.closed graph.graph graph.function graph.out graph.count there graph.lowered)

  asks : IsClosedFlow flow → AsksMallocAlone flow
  asks closed = All-weaker (λ (x : Point). IsClosedCode x.code) (λ (x : Point). IsClosedInstr x.code) (λ x h. closed_code x.code h) flow.points closed.points

  pub are_real : (merge : Bool) (f : Findings) (count : ℕ) → (found : HasAlarms flow defs merge f count) → AreReal start unit defs flow merge found.alarms
  are_real merge f count found = record {
    real = by flow.heads merge refl refl;
    closed = λ no_merge closed. let c = closed_flow closed in laws.marked flow defs found.lines found.alarms (asks c) (found.marked (c.no_loops, no_merge));
  }
    where
      without_marks : (IsFollowedWhole flow merge → ⊥) → AllByRecursion (IsRealAlarm start unit defs flow) found.alarms
      without_marks searched = subst (λ (l : List Alarm). AllByRecursion (IsRealAlarm start unit defs flow) l) (sym (found.not_marked searched)) (none_real found.stuck)

      by : (heads : List PointId) (m : Bool) → flow.heads ≡ heads → merge ≡ m → AllByRecursion (IsRealAlarm start unit defs flow) found.alarms
      by [] false e f = all_real e found.alarms (laws.exact flow defs found.lines found.alarms valid (record { no_loops = e; few = few }) (found.marked (e, f)))
      by [] true e f = without_marks (λ whole. let no : true ≡ false = sym f ∙ whole.1 in absurd cc)
      by (p ∷ heads) m e f = without_marks (λ whole. let no : p ∷ heads ≡ [] = sym e ∙ whole.0 in absurd cc)
