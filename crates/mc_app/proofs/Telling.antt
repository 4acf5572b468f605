-- What a call's status means, from the cause of its answer.
use Rattle.std.proofs.Common.{◌≡◌, ◌∙◌, ◌<◌, ℕ, Bool, List, Option, Some, codes, inl, inr, refl, ap, subst, length, arith}
use Rattle.std.specs.Prelude.{Ok}
use Rattle.mc_c_syntax.specs.Ast.Trees.{UnitTree}
use Rattle.mc_judge.specs.declared.judge.verdict.Refusal.TheVariants.{EndsEarly}
use Rattle.mc_judge.specs.declared.judge.verdict.Verdict.TheVariants.{Safe, Alarms, Refused as Mistaken}
use Rattle.mc_find.specs.declared.analysis.analysis.Analysis.TheVariants as analysis
use Rattle.mc_find.specs.declared.analysis.analysis.Findings.{Findings}
use Rattle.mc_flow.specs.declared.defs.rules.Def.{Def}
use Rattle.mc_flow.specs.declared.graph.Flow.{Flow}
use Rattle.mc_kernel.specs.Branches.{Path}
use Rattle.mc_load.specs.Inputs.Inputs.{AreInputs, Holds, IsRefused}
use Rattle.mc_load.specs.Inputs.Texts.{AreDefinitions, IsProgramHere}
use Rattle.mc_load.specs.Lowered.Graphs.{IsGraphOf}
use Rattle.mc_load.specs.declared.inputs.reading.Sources.{Sources}
use Rattle.mc_load.specs.declared.inputs.refusal.Refusal.{Refusal}
use Rattle.mc_load.specs.declared.inputs.refusal.Refusal.TheVariants as refusals
use Rattle.mc_outside.specs.Outside.{AddsIfTold}
use Rattle.mc_outside.specs.declared.outside.FileFault.{FileFault}
use Rattle.mc_outside.specs.declared.outside.FileFault.TheVariants.{Failed, NoMemory}
use Rattle.mc_app.specs.Analyses.{IsWhyFound}
use Rattle.mc_app.specs.Alike.{AreJudgedAlike, IsLikeAnalysis}
use Rattle.mc_app.specs.Answers.{IsRefusedFor, IsWhyWords, sources_of, status_of}
use Rattle.mc_app.specs.Blocked.{FaultsComeBy}
use Rattle.mc_app.specs.Faults.{fault_status}
use Rattle.mc_app.specs.Printing.{text_of}
use Rattle.mc_app.specs.Real.{AreReal}
use Rattle.mc_app.specs.Statuses.{AlarmsMean, AlarmsTell, IsComplete, IsReady, TellsFaults}
use Rattle.mc_app.specs.Tried.{IsShown}
use Rattle.mc_app.specs.Words.Commands.{analyse_app, check_app, run_app}
use Rattle.mc_app.specs.Words.Words.{Asks, AsksAnalyse}
use Rattle.mc_app.specs.declared.analysing.Analysed.TheVariants as results
use Rattle.mc_app.specs.declared.answer.Answer.{Answer}
use Rattle.mc_app.specs.declared.answer.Answer.TheVariants.{Words, Refused, Checked, Ran, Analysed, Demo}
use Rattle.mc_app.specs.declared.answer.Status.{Status}
use Rattle.mc_app.specs.declared.answer.Status.TheVariants as statuses
use Rattle.mc_app.specs.declared.checking.Checked.TheVariants.{TooLong, Judged}
use Rattle.mc_app.specs.declared.words.words.Analyse.{Analyse}
use Rattle.mc_app.specs.declared.words.words.Request.{Request}
use Rattle.mc_app.specs.declared.words.words.Request.TheVariants as request
use Rattle.mc_app.proofs.Alike.{Given, Laws, given, never, one_defs, one_unit}
use Rattle.mc_app.proofs.Asked.{no_analysis, no_demo_analysis, no_demo_check, no_demo_run, no_other, no_run, one_flag, one_word}

-- ---- the same words name the same files

pub record SameSources (s t : Sources) : Type 0 where
  pub program : s.program.now ≡ t.program.now
  pub definitions : s.definitions.now ≡ t.definitions.now
  pub start : s.start.now ≡ t.start.now

pub same_sources : (words : List (List ℕ)) (r q : Request) → Asks words r → Asks words q → SameSources (sources_of r) (sources_of q)
same_sources words (request.Check c) (request.Check d) asks too = record {
  program = one_word check_app words _ c.program.now d.program.now asks.program too.program;
  definitions = one_word check_app words _ c.definitions.now d.definitions.now asks.definitions too.definitions;
  start = one_word check_app words _ c.start.now d.start.now asks.start too.start;
}
same_sources words (request.Check c) (request.Run r) asks too = absurd (no_run words c r asks too)
same_sources words (request.Check c) (request.Analyse a) asks too = absurd (no_analysis words c a asks too)
same_sources words (request.Run r) (request.Check c) asks too = absurd (no_run words c r too asks)
same_sources words (request.Run r) (request.Run q) asks too = record {
  program = one_word run_app words _ r.program.now q.program.now asks.program too.program;
  definitions = one_word run_app words _ r.definitions.now q.definitions.now asks.definitions too.definitions;
  start = one_word run_app words _ r.start.now q.start.now asks.start too.start;
}
same_sources words (request.Run r) (request.Analyse a) asks too = absurd (no_other words r a asks too)
same_sources words (request.Analyse a) (request.Check c) asks too = absurd (no_analysis words c a too asks)
same_sources words (request.Analyse a) (request.Run r) asks too = absurd (no_other words r a too asks)
same_sources words (request.Check c) (request.Demo n) asks too = absurd (no_demo_check words c n asks too)
same_sources words (request.Run r) (request.Demo n) asks too = absurd (no_demo_run words r n asks too)
same_sources words (request.Analyse a) (request.Demo n) asks too = absurd (no_demo_analysis words a n asks too)
same_sources words (request.Demo n) (request.Check c) asks too = absurd (no_demo_check words c n too asks)
same_sources words (request.Demo n) (request.Run r) asks too = absurd (no_demo_run words r n too asks)
same_sources words (request.Demo n) (request.Analyse a) asks too = absurd (no_demo_analysis words a n too asks)
same_sources words (request.Demo n) (request.Demo m) asks too = record { program = refl; definitions = refl; start = refl }
same_sources words (request.Analyse a) (request.Analyse b) asks too = record {
  program = one_word analyse_app words _ a.program.now b.program.now asks.program too.program;
  definitions = one_word analyse_app words _ a.definitions.now b.definitions.now asks.definitions too.definitions;
  start = one_word analyse_app words _ a.start.now b.start.now asks.start too.start;
}

-- what is refused for a request is refused of the files that it names
sources_refused : (holds : Holds) (r : Request) (refusal : Refusal) → IsRefusedFor holds r refusal → IsRefused holds (sources_of r) refusal
sources_refused holds (request.Check c) refusal refused = refused
sources_refused holds (request.Run r) refusal refused = refused
sources_refused holds (request.Analyse a) refusal refused = refused
sources_refused holds (request.Demo n) refusal refused = absurd refused

-- ---- alarms

positive : (n m : ℕ) → n ≡ m → 0 < n → 0 < m
positive n m e h = omega (arith, e, h)

-- what is read by one request is read by another of the same words
read_too : (holds : Holds) (s t : Sources) (unit : UnitTree) (defs : List Def) (text definitions : List ℕ) → SameSources s t → holds t.program.now ≡ Some text → holds t.definitions.now ≡ Some definitions
    → AreInputs holds s unit defs → IsProgramHere t.start.now text unit × AreDefinitions unit defs definitions
read_too holds s t unit defs text definitions same h k inputs = (
  subst (λ (x : List ℕ). IsProgramHere x text unit) same.start (inputs.program text (ap holds same.program ∙ h)),
  inputs.definitions definitions (ap holds same.definitions ∙ k),
)

told_by : (start other : List ℕ) (unit : UnitTree) (defs : List Def) (flow : Flow) (stuck : List Path) (count : ℕ) → start ≡ other → IsGraphOf start unit defs flow → count ≡ length stuck → 0 < count
    → FaultsComeBy start unit defs flow stuck → TellsFaults other unit defs stuck flow
told_by start other unit defs flow stuck count e graph counted some finds = record {
  graph = subst (λ (x : List ℕ). IsGraphOf x unit defs flow) e graph;
  some = positive count (length stuck) counted some;
  finds = subst (λ (x : List ℕ). FaultsComeBy x unit defs flow stuck) e finds;
}

-- what an analysis means that has found alarms, whose report was printed as it was or with scripts
analysis_tells : (holds : Holds) (words : List (List ℕ)) (old new : Option (List ℕ)) (b a : Analyse) (f : Findings) (count : ℕ) (shown : List ℕ) (unit : UnitTree) (defs : List Def) → AsksAnalyse words b → AsksAnalyse words a
    → AreInputs holds (sources_of (request.Analyse b)) unit defs → IsWhyFound b unit defs (analysis.Alarms f count) → IsShown b.start.now unit defs f.report.items shown → AddsIfTold old shown new (Ok tt)
    → (text definitions : List ℕ) → holds a.program.now ≡ Some text → holds a.definitions.now ≡ Some definitions
    → (u : UnitTree) × (ds : List Def) × IsProgramHere a.start.now text u × AreDefinitions u ds definitions × AlarmsMean holds old new u ds (request.Analyse a)
analysis_tells holds words old new b a f count shown unit defs by asks inputs found is adds text definitions h k =
    let alarming = found.3.0 in
    let same = same_sources words (request.Analyse b) (request.Analyse a) by asks in
    let read = read_too holds (sources_of (request.Analyse b)) (sources_of (request.Analyse a)) unit defs text definitions same h k inputs in (
      unit,
      defs,
      read.0,
      read.1,
      (
        found.0,
        alarming.chain.heads,
        alarming.alarms,
        f.report.items,
        shown,
        alarming.report,
        subst (λ (s : List ℕ). IsShown s unit defs f.report.items shown) same.start is,
        adds,
        subst (λ (l : List Path). TellsFaults a.start.now unit defs l found.0) alarming.stuck_are
            (told_by b.start.now a.start.now unit defs found.0 alarming.stuck count same.start found.1 alarming.counted alarming.some found.3.1.0),
        subst (λ (m : Bool). AreReal a.start.now unit defs found.0 m alarming.alarms) (one_flag analyse_app words (codes "merge") b.merge a.merge by.merge asks.merge)
            (subst (λ (s : List ℕ). AreReal s unit defs found.0 b.merge alarming.alarms) same.start found.3.1.1),
      ),
    )

pub alarms_tell : (holds : Holds) (words : List (List ℕ)) (a : Answer) (old new : Option (List ℕ)) → IsWhyWords holds words a → AddsIfTold old (text_of a) new (Ok tt) → status_of a ≡ statuses.Alarm
    → AlarmsTell holds words old new
alarms_tell holds words Words old new why adds e r asks wants text h definitions k = cc
alarms_tell holds words (Refused (refusals.Program cause)) old new why adds e r asks wants text h definitions k = cc
alarms_tell holds words (Refused (refusals.Definitions cause)) old new why adds e r asks wants text h definitions k = cc
alarms_tell holds words (Refused (refusals.Misfit fault)) old new why adds e r asks wants text h definitions k = cc
alarms_tell holds words (Checked TooLong) old new why adds e r asks wants text h definitions k = cc
alarms_tell holds words (Checked (Judged Safe)) old new why adds e r asks wants text h definitions k = cc
alarms_tell holds words (Checked (Judged (Mistaken refusal))) old new why adds e r asks wants text h definitions k = cc
alarms_tell holds words (Checked (Judged (Alarms count))) old new why adds e (request.Check c) asks wants text h definitions k =
    let d = why.0 in
    let unit = why.2.0 in
    let defs = why.2.1 in
    let judged = why.2.3 in
    let same = same_sources words (request.Check d) (request.Check c) why.1 asks in
    let read = read_too holds (sources_of (request.Check d)) (sources_of (request.Check c)) unit defs text definitions same h k why.2.2 in
    let document_is : d.document.now ≡ c.document.now = one_word check_app words _ d.document.now c.document.now why.1.document asks.document in (
      unit,
      defs,
      read.0,
      read.1,
      λ document told.
          let said = judged.told document (ap holds document_is ∙ told) in
          let chain = said.1 in
          let found = (said.0.0.alarms chain.1.known.0 count chain.1.known.1).0 refl in
          (judged.flow, chain.0, chain.1, told_by d.start.now c.start.now unit defs judged.flow chain.0 count same.start judged.graph chain.2 found.holds.3 chain.3),
    )
alarms_tell holds words (Checked (Judged (Alarms count))) old new why adds e (request.Run r) asks wants text h definitions k = absurd wants
alarms_tell holds words (Checked (Judged (Alarms count))) old new why adds e (request.Demo n) asks wants text h definitions k = absurd wants
alarms_tell holds words (Checked (Judged (Alarms count))) old new why adds e (request.Analyse a) asks wants text h definitions k = absurd (no_analysis words why.0 a why.1 asks)
alarms_tell holds words (Ran found) old new why adds e (request.Check c) asks wants text h definitions k = absurd (no_run words c why.0 asks why.1)
alarms_tell holds words (Ran found) old new why adds e (request.Run r) asks wants text h definitions k = absurd wants
alarms_tell holds words (Ran found) old new why adds e (request.Demo n) asks wants text h definitions k = absurd wants
alarms_tell holds words (Ran found) old new why adds e (request.Analyse a) asks wants text h definitions k = absurd (no_other words why.0 a why.1 asks)
alarms_tell holds words (Demo printed) old new why adds e r asks wants text h definitions k = cc
alarms_tell holds words (Analysed results.TooLong) old new why adds e r asks wants text h definitions k = cc
alarms_tell holds words (Analysed (results.Found (analysis.Safe f))) old new why adds e r asks wants text h definitions k = cc
alarms_tell holds words (Analysed (results.Found (analysis.Paths document))) old new why adds e r asks wants text h definitions k = cc
alarms_tell holds words (Analysed (results.Found analysis.Unknown)) old new why adds e r asks wants text h definitions k = cc
alarms_tell holds words (Analysed (results.Found (analysis.Alarms f count))) old new why adds e (request.Check c) asks wants text h definitions k = absurd (no_analysis words c why.0 asks why.1)
alarms_tell holds words (Analysed (results.Found (analysis.Alarms f count))) old new why adds e (request.Run r) asks wants text h definitions k = absurd wants
alarms_tell holds words (Analysed (results.Found (analysis.Alarms f count))) old new why adds e (request.Demo n) asks wants text h definitions k = absurd wants
alarms_tell holds words (Analysed (results.Found (analysis.Alarms f count))) old new why adds e (request.Analyse a) asks wants text h definitions k =
    analysis_tells holds words old new why.0 a f count f.report.items why.2.0 why.2.1 why.1 asks why.2.2 why.2.3 (inl refl) adds text definitions h k
alarms_tell holds words (Analysed (results.Tried f count shown)) old new why adds e (request.Check c) asks wants text h definitions k = absurd (no_analysis words c why.0 asks why.1)
alarms_tell holds words (Analysed (results.Tried f count shown)) old new why adds e (request.Run r) asks wants text h definitions k = absurd wants
alarms_tell holds words (Analysed (results.Tried f count shown)) old new why adds e (request.Demo n) asks wants text h definitions k = absurd wants
alarms_tell holds words (Analysed (results.Tried f count shown)) old new why adds e (request.Analyse a) asks wants text h definitions k =
    analysis_tells holds words old new why.0 a f count shown.items why.2.0 why.2.1 why.1 asks why.2.2 why.2.3.0 (inr why.2.3.1) adds text definitions h k

-- the status of a fault is none of an alarm
pub fault_tells : (holds : Holds) (words : List (List ℕ)) (old new : Option (List ℕ)) (fault : FileFault) (s : Status) → s ≡ fault_status fault → s ≡ statuses.Alarm → AlarmsTell holds words old new
fault_tells holds words old new Failed s e is = absurd cc
fault_tells holds words old new NoMemory s e is = absurd cc

-- ---- completeness

pub fault_completes : (holds : Holds) (words : List (List ℕ)) (fault : FileFault) (s : Status) → s ≡ fault_status fault → IsComplete holds words s
fault_completes holds words Failed s e r unit defs ready = inl e
fault_completes holds words NoMemory s e r unit defs ready = inr (inl e)

module _ (laws : Laws) (holds : Holds) (words : List (List ℕ)) (r : Request) (unit : UnitTree) (defs : List Def) (ready : IsReady holds words r unit defs) where
  abbrev start : List ℕ
  start = (sources_of r).start.now

  here : Given start ready.text ready.definitions unit defs
  here = given holds (sources_of r) unit defs start (sources_of r).program.now (sources_of r).definitions.now ready.text ready.definitions refl refl refl ready.is_text ready.are_definitions ready.inputs

  -- whatever else is read by these words is the same
  same_inputs : (q : Request) → Asks words q → (u : UnitTree) (ds : List Def) → AreInputs holds (sources_of q) u ds → (u ≡ unit) × (ds ≡ defs)
  same_inputs q asks u ds inputs =
      let same = same_sources words q r asks ready.asks in
      let there = given holds (sources_of q) u ds start (sources_of r).program.now (sources_of r).definitions.now ready.text ready.definitions same.program same.definitions same.start ready.is_text
      ready.are_definitions inputs in
      let unit_is = one_unit laws start ready.text ready.definitions unit defs here u there.program in
      (unit_is, one_defs laws start ready.text ready.definitions unit defs here ds (subst (λ (x : UnitTree). AreDefinitions x ds ready.definitions) unit_is there.defined))

  moved : (P : UnitTree → List Def → Type 0) (u : UnitTree) (ds : List Def) → (u ≡ unit) × (ds ≡ defs) → P u ds → P unit defs
  moved P u ds same p = subst (λ (x : List Def). P unit x) same.1 (subst (λ (x : UnitTree). P x ds) same.0 p)

  pub ends_by : (a : Answer) → IsWhyWords holds words a → (q : Request) × Asks words q × Rattle.mc_app.specs.Statuses.EndsBy holds q unit defs (status_of a)
  ends_by Words why = absurd (why r ready.asks)
  ends_by (Refused refusal) why =
      let same = same_sources words why.0 r why.1 ready.asks in
      absurd (never laws start ready.text ready.definitions unit defs here holds (sources_of why.0) (sources_of r).program.now (sources_of r).definitions.now same.program same.definitions same.start ready.is_text
      ready.are_definitions refusal (sources_refused holds why.0 refusal why.2))
  ends_by (Checked found) why =
      let q = request.Check why.0 in
      (q, why.1, (found, moved (λ u ds. Rattle.mc_app.specs.Checks.IsWhyChecked holds why.0 u ds found) why.2.0 why.2.1 (same_inputs q why.1 why.2.0 why.2.1 why.2.2) why.2.3, refl))
  ends_by (Ran found) why =
      let q = request.Run why.0 in
      (q, why.1, (found, moved (λ u ds. Rattle.mc_app.specs.Runs.IsWhyRan holds why.0 u ds found) why.2.0 why.2.1 (same_inputs q why.1 why.2.0 why.2.1 why.2.2) why.2.3, refl))
  ends_by (Analysed found) why =
      let q = request.Analyse why.0 in
      (q, why.1, (found, moved (λ u ds. Rattle.mc_app.specs.Analyses.IsWhyAnalysed why.0 u ds found) why.2.0 why.2.1 (same_inputs q why.1 why.2.0 why.2.1 why.2.2) why.2.3, refl))
  ends_by (Demo text) why = (request.Demo why.0, why.1, refl)

pub answers_complete : Laws → (holds : Holds) (words : List (List ℕ)) (a : Answer) → IsWhyWords holds words a → IsComplete holds words (status_of a)
answers_complete laws holds words a why r unit defs ready = inr (inr (ends_by laws holds words r unit defs ready a why))

-- ---- a check of what an analysis left

pub fault_is_like : (after : Holds) (more : List (List ℕ)) (old new : Option (List ℕ)) (fault : FileFault) (s : Status) → s ≡ fault_status fault → IsLikeAnalysis after more old new s
fault_is_like after more old new Failed s e before words a c one asks too names still why left = inl e
fault_is_like after more old new NoMemory s e before words a c one asks too names still why left = inr (inl e)

-- the text of an answer was printed
printed : (old new : Option (List ℕ)) (a : Answer) → a ≡ Checked (Judged (Mistaken EndsEarly)) → AddsIfTold old (text_of a) new (Ok tt) → AddsIfTold old (codes "refused: ends early\n") new (Ok tt)
printed old new a e adds = subst (λ (x : Answer). AddsIfTold old (text_of x) new (Ok tt)) e adds

pub answer_is_like : AreJudgedAlike → (after : Holds) (more : List (List ℕ)) (other : Answer) (old new : Option (List ℕ)) → IsWhyWords after more other → AddsIfTold old (text_of other) new (Ok tt)
    → IsLikeAnalysis after more old new (status_of other)
answer_is_like alike after more other old new then adds before words a c one asks too names still why left =
    let ends = alike before after words more a c one other asks too names still why left then in
    inr (inr (ends.same, λ limit. (ap (λ (x : Answer). status_of x) (ends.early limit), printed old new other (ends.early limit) adds)))
