-- An analysis decides a closed program.
use Rattle.std.proofs.Common.{◌≡◌, ◌∙◌, ◌<◌, ◌⊎◌, ℕ, Bool, false, List, [], ◌∷◌, Some, None, codes, inl, inr, length, map, sym, ap, subst, arith}
use Rattle.std.specs.List.{AllByRecursion}
use Rattle.std.proofs.lemmas.List.{length-map}
use Rattle.mc_c_syntax.specs.Ast.Trees.{FunctionTree, UnitTree}
use Rattle.mc_exact.specs.Marks.{Alarm, IsMarked}
use Rattle.mc_find.specs.Analysis.Findings.{HasAlarms}
use Rattle.mc_find.specs.declared.analysis.analysis.Analysis.TheVariants.{Safe, Alarms, Paths, Unknown}
use Rattle.mc_find.specs.declared.analysis.analysis.Findings.{Findings}
use Rattle.mc_flow.specs.Heap.Choices.{malloc}
use Rattle.mc_flow.specs.declared.defs.rules.Def.{Def}
use Rattle.mc_flow.specs.declared.graph.Flow.{Flow}
use Rattle.mc_kernel.specs.Branches.{Path}
use Rattle.mc_load.specs.Inputs.Inputs.{Holds}
use Rattle.mc_load.specs.Lowered.Graphs.{IsGraphOf, IsLong}
use Rattle.mc_lower_laws.specs.Closed.{IsClosed, IsClosedFlow}
use Rattle.mc_outside.specs.declared.outside.FileFault.{FileFault}
use Rattle.mc_outside.specs.declared.outside.FileFault.TheVariants.{Failed, NoMemory}
use Rattle.mc_semantics.specs.Resolved.Programs.{Program}
use Rattle.mc_semantics.specs.Steps.{IsSafeProgram, program_of}
use Rattle.mc_app.specs.Analyses.{IsWhyAnalysed, IsWhyFound}
use Rattle.mc_app.specs.Answers.{analysed_status}
use Rattle.mc_app.specs.Checks.{IsSafeUnit}
use Rattle.mc_app.specs.Faults.{fault_status}
use Rattle.mc_app.specs.Real.{IsClosedUnit, IsRealAlarm}
use Rattle.mc_app.specs.Statuses.{Decides, EndsBy, IsComplete, IsDecided}
use Rattle.mc_app.specs.Words.Commands.{analyse_app}
use Rattle.mc_app.specs.Words.Words.{Asks}
use Rattle.mc_app.specs.declared.analysing.Analysed.{Analysed}
use Rattle.mc_app.specs.declared.analysing.Analysed.TheVariants.{TooLong, Found, Tried}
use Rattle.mc_app.specs.declared.answer.Status.{Status}
use Rattle.mc_app.specs.declared.answer.Status.TheVariants as statuses
use Rattle.mc_app.specs.declared.words.words.Analyse.{Analyse}
use Rattle.mc_app.specs.declared.words.words.Request.{Request}
use Rattle.mc_app.specs.declared.words.words.Request.TheVariants as request
use Rattle.mc_app.proofs.Asked.{no_analysis, no_demo_analysis, no_other, one_flag, one_word}
use Rattle.mc_app.proofs.Real.{ClosedLowered}

-- a program with an alarm that is real is not safe
not_safe : (start : List ℕ) (unit : UnitTree) (defs : List Def) (flow : Flow) (alarms : List Alarm) → 0 < length alarms → AllByRecursion IsMarked alarms → AllByRecursion (IsRealAlarm start unit defs flow) alarms
    → IsSafeUnit start unit defs → ⊥
not_safe start unit defs flow [] some marked real safe = omega arith
not_safe start unit defs flow ((b, None) ∷ alarms) some marked real safe = absurd marked.0
not_safe start unit defs flow ((b, Some answers) ∷ alarms) some marked real safe =
    let faults = real.0 in
    let called : Some safe.0 ≡ Some faults.f = sym safe.1 ∙ faults.called in
    let same : safe.0 ≡ faults.f = cc in
    let none = subst (λ (f : FunctionTree). IsSafeProgram (program_of unit defs) f) same safe.2 in
    none faults.steps (map malloc answers) faults.kind faults.point.place faults.faults

some_alarm : (flow : Flow) (defs : List Def) (merge : Bool) (f : Findings) (count : ℕ) (found : HasAlarms flow defs merge f count) → 0 < length found.alarms
some_alarm flow defs merge f count found =
    let counted = found.counted in
    let some = found.some in
    let mapped : length found.stuck ≡ length found.alarms = ap (λ (l : List Path). length l) found.stuck_are ∙ length-map found.alarms (λ (a : Alarm). a.0) in
    omega arith

module _ (closed : ClosedLowered) (start : List ℕ) (unit : UnitTree) (defs : List Def) (is : IsClosedUnit start unit defs) where
  -- alarms of a closed program are real
  alarmed : (b : Analyse) → b.start.now ≡ start → b.merge ≡ false → (f : Findings) (count : ℕ) → IsWhyFound b unit defs (Alarms f count) → IsSafeUnit start unit defs → ⊥
  alarmed b e no_merge f count why safe =
      let real = why.3.1.1 in
      let closed_too = subst (λ (s : List ℕ). IsClosedUnit s unit defs) (sym e) is in
      not_safe b.start.now unit defs why.0 why.3.0.alarms (some_alarm why.0 defs b.merge f count why.3.0) (real.closed no_merge closed_too) real.real (subst (λ (s : List ℕ). IsSafeUnit s unit defs) (sym e) safe)

  -- what is found of a closed program
  pub decides : (b : Analyse) → b.start.now ≡ start → b.merge ≡ false → (found : Analysed) → IsWhyAnalysed b unit defs found → Decides start unit defs (analysed_status found)
  decides b e no_merge TooLong why = subst (λ (s : List ℕ). IsLong s unit defs) e why
  decides b e no_merge (Found (Safe f)) why = subst (λ (s : List ℕ). IsSafeUnit s unit defs) e why.3.1
  decides b e no_merge (Found (Alarms f count)) why = alarmed b e no_merge f count why
  decides b e no_merge (Tried f count text) why = alarmed b e no_merge f count why.0
  decides b e no_merge (Found (Paths document)) why = (why.0, document.items, subst (λ (s : List ℕ). IsGraphOf s unit defs why.0) e why.1, why.3.0)
  decides b e no_merge (Found Unknown) why =
      let graph = why.1 in
      let closed_too = subst (λ (s : List ℕ). IsClosedUnit s unit defs) (sym e) is in
      let there = subst (λ (p : Program). IsClosed p) (sym graph.program) closed_too in
      let loops = subst (λ (f : Flow). IsClosedFlow f) graph.is_its (closed graph.graph graph.function graph.out graph.count there graph.lowered) in
      absurd (why.3.0 (loops.no_loops, no_merge))

pub decided : ClosedLowered → (holds : Holds) (words : List (List ℕ)) (s : Status) → IsComplete holds words s → IsDecided holds words s
decided closed holds words s complete a unit defs ready no_merge is = by (complete (request.Analyse a) unit defs ready)
  where
    start : List ℕ
    start = a.start.now

    by_command : (q : Request) → Asks words q → EndsBy holds q unit defs s → Decides start unit defs s
    by_command (request.Check c) asks ends = absurd (no_analysis words c a asks ready.asks)
    by_command (request.Run r) asks ends = absurd (no_other words r a asks ready.asks)
    by_command (request.Demo n) asks ends = absurd (no_demo_analysis words a n ready.asks asks)
    by_command (request.Analyse b) asks ends =
        let same = one_word analyse_app words _ b.start.now a.start.now asks.start ready.asks.start in
        let merges : b.merge ≡ false = one_flag analyse_app words (codes "merge") b.merge a.merge asks.merge ready.asks.merge ∙ no_merge in
        subst (λ (x : Status). Decides start unit defs x) (sym ends.2) (decides closed start unit defs is b same merges ends.0 ends.1)

    by : (s ≡ statuses.Device) ⊎ ((s ≡ statuses.Memory) ⊎ ((q : Request) × Asks words q × EndsBy holds q unit defs s)) → Decides start unit defs s
    by (inl e) = subst (λ (x : Status). Decides start unit defs x) (sym e) tt
    by (inr (inl e)) = subst (λ (x : Status). Decides start unit defs x) (sym e) tt
    by (inr (inr ends)) = by_command ends.0 ends.1 ends.2

pub fault_decides : (holds : Holds) (words : List (List ℕ)) (fault : FileFault) (s : Status) → s ≡ fault_status fault → IsDecided holds words s
fault_decides holds words Failed s e a unit defs ready no_merge is = subst (λ (x : Status). Decides a.start.now unit defs x) (sym e) tt
fault_decides holds words NoMemory s e a unit defs ready no_merge is = subst (λ (x : Status). Decides a.start.now unit defs x) (sym e) tt
