-- The document that an analysis has left is judged as the analysis ended.
use Rattle.std.proofs.Common.{◌≡◌, ◌∙◌, ◌≤◌, ℕ, Bool, List, Option, Some, inl, inr, refl, sym, ap, subst, length, arith}
use Rattle.std.specs.Prelude.{None, Ok, Err}
use Rattle.mc_find.specs.declared.analysis.analysis.Analysis.{Analysis}
use Rattle.mc_find.specs.declared.analysis.analysis.Analysis.TheVariants as analysis
use Rattle.mc_find.specs.Analysis.Findings.{IsAnalysis}
use Rattle.mc_c_syntax.specs.Ast.Trees.{UnitTree}
use Rattle.mc_def_read.specs.Judging.{Judged as JudgedText}
use Rattle.mc_def_read.specs.Readings.{ReadsAs}
use Rattle.mc_flow.specs.declared.defs.rules.Def.{Def}
use Rattle.mc_flow.specs.declared.defs.shapes.StructInfo.{StructInfo}
use Rattle.mc_flow.specs.declared.graph.Flow.{Flow}
use Rattle.mc_flow.specs.Valid.{IsValid}
use Rattle.mc_document.specs.Spelled.{SpellAll}
use Rattle.mc_joins.specs.Chains.ReadLaws.{LoresAreThere, ShortChainsAreLegal}
use Rattle.mc_joins.specs.Chains.Short.{ShortReadingsAgree}
use Rattle.mc_lines.specs.Cert.Lines.{lines_of}
use Rattle.mc_load.specs.Inputs.Inputs.{AreInputs, Holds, IsRefused}
use Rattle.mc_load.specs.Inputs.Texts.{AreDefinitions, HasMisfit, IsProgramHere}
use Rattle.mc_load.specs.declared.inputs.reading.Sources.{Sources}
use Rattle.mc_load.specs.declared.inputs.refusal.NoDefinitions.TheVariants as no_definitions
use Rattle.mc_load.specs.declared.inputs.refusal.NoProgram.TheVariants as no_program
use Rattle.mc_load.specs.declared.inputs.refusal.Refusal.{Refusal}
use Rattle.mc_load.specs.declared.inputs.refusal.Refusal.TheVariants.{Program, Definitions, Misfit}
use Rattle.mc_judge.specs.declared.judge.verdict.Verdict.{Verdict}
use Rattle.mc_judge.specs.declared.judge.verdict.Refusal.TheVariants.{EndsEarly}
use Rattle.mc_judge.specs.declared.judge.verdict.Verdict.TheVariants.{Refused as Mistaken}
use Rattle.mc_judge.specs.Judge.Laws.{OpenDocumentsEndEarly}
use Rattle.mc_judge.specs.Judge.Verdicts.{IsCertificate, Tells}
use Rattle.mc_lower_spec.specs.Graphs.{Graph}
use Rattle.mc_lower_spec.specs.Lowering.{IsLowering}
use Rattle.mc_load.specs.declared.read.cause.Refusal.{Refusal as ProgramFault}
use Rattle.mc_load.specs.Read.Programs.{IsProgramOf, IsReadAs}
use Rattle.mc_load.specs.Read.Refusals.{IsRefused as IsProgramRefused}
use Rattle.mc_semantics.specs.Resolved.Programs.{Function}
use Rattle.mc_c_types.specs.First.{told_of}
use Rattle.mc_c_types.specs.Shapes.{IsBound, bind_faults}
use Rattle.mc_c_types.specs.Tables.{struct_infos}
use Rattle.mc_app.specs.Words.Commands.{analyse_app, check_app}
use Rattle.mc_app.specs.declared.words.words.Analyse.{Analyse}
use Rattle.mc_app.specs.declared.words.words.Check.{Check}
use Rattle.mc_app.specs.declared.words.words.Request.{Request}
use Rattle.mc_app.specs.declared.words.words.Request.TheVariants as request
use Rattle.mc_app.specs.Words.Words.{Asks, AsksAnalyse, AsksCheck}
use Rattle.mc_app.specs.Alike.{AreJudgedAlike, AreStill, EndAlike, IsFoundStatus, NamesSame}
use Rattle.mc_app.specs.Answers.{IsRefusedFor, IsWhyWords, analysed_document, checked_status, sources_of, status_of}
use Rattle.mc_load.specs.Lowered.Graphs.{IsGraphOf}
use Rattle.mc_app.specs.Checks.{IsJudged, IsWhyChecked}
use Rattle.mc_app.specs.Documents.{IsVerdictOn}
use Rattle.mc_app.specs.declared.answer.Answer.{Answer}
use Rattle.mc_app.specs.declared.answer.Answer.TheVariants.{Words, Refused, Checked, Ran, Analysed, Demo}
use Rattle.mc_app.specs.declared.analysing.Analysed.TheVariants as results
use Rattle.mc_app.specs.declared.answer.Status.TheVariants as statuses
use Rattle.mc_app.specs.declared.checking.Checked.{Checked as Found}
use Rattle.mc_app.specs.declared.checking.Checked.TheVariants.{TooLong, Judged}
use Rattle.mc_app.proofs.Chains.{alarms_said}
use Rattle.mc_app.proofs.Openings.{front_goes_on}
use Rattle.mc_app.proofs.Asked.{no_analysis, no_demo_analysis, no_demo_check, no_other, no_run, one_word}

-- what is known of texts and flow graphs
pub record Laws : Type 0 where
  pub read_once : (text : List ℕ) (one other : UnitTree) → IsReadAs text one → IsReadAs text other → one ≡ other
  pub not_refused : (text entry : List ℕ) (unit : UnitTree) (refusal : ProgramFault) → IsProgramOf text entry unit → IsProgramRefused text entry refusal → ⊥
  pub defined_once : (text : List ℕ) (structs : List StructInfo) (one other : JudgedText (List Def)) → ReadsAs text structs one → ReadsAs text structs other → one ≡ other
  pub judged : LoresAreThere
  pub legal : ShortChainsAreLegal
  pub short : ShortReadingsAgree
  pub early : OpenDocumentsEndEarly
  pub one_graph : (g h : Graph) (entry start : Function) (out count left more : ℕ) → g.program ≡ h.program → g.flow.structs ≡ h.flow.structs
      → IsLowering g entry out count → IsLowering h start left more → (g.flow ≡ h.flow) × (g.stops ≡ h.stops)

-- texts are a program for an entry and its definitions, which it fits
pub record Given (start text definitions : List ℕ) (unit : UnitTree) (defs : List Def) : Type 0 where
  pub program : IsProgramHere start text unit
  pub defined : AreDefinitions unit defs definitions
  pub fit : IsBound unit defs

pub given : (holds : Holds) (s : Sources) (unit : UnitTree) (defs : List Def) (start p d text definitions : List ℕ) → s.program.now ≡ p → s.definitions.now ≡ d → s.start.now ≡ start
    → holds p ≡ Some text → holds d ≡ Some definitions → AreInputs holds s unit defs → Given start text definitions unit defs
given holds s unit defs start p d text definitions e f g h k inputs =
    record {
      program = subst (λ (x : List ℕ). IsProgramHere x text unit) g (inputs.program text (ap holds e ∙ h));
      defined = inputs.definitions definitions (ap holds f ∙ k);
      fit = inputs.fit;
    }

module _ (laws : Laws) (start text definitions : List ℕ) (unit : UnitTree) (defs : List Def) (here : Given start text definitions unit defs) where
  -- the same texts are nothing else
  pub one_unit : (other : UnitTree) → IsProgramHere start text other → other ≡ unit
  one_unit other there = laws.read_once text other unit there.1.read here.program.1.read

  pub one_defs : (others : List Def) → AreDefinitions unit others definitions → others ≡ defs
  one_defs others there = let same = laws.defined_once definitions (struct_infos unit) (Ok others) (Ok defs) there.1 here.defined.1 in cc

  pub never : (holds : Holds) (s : Sources) (p d : List ℕ) → s.program.now ≡ p → s.definitions.now ≡ d → s.start.now ≡ start
      → holds p ≡ Some text → holds d ≡ Some definitions → (refusal : Refusal) → IsRefused holds s refusal → ⊥
  never holds s p d e f g h k (Program no_program.TooBig) refused = let big = refused text (ap holds e ∙ h) in let small = here.program.0 in absurd (omega arith)
  never holds s p d e f g h k (Program (no_program.Refused fault)) refused =
      let unread = refused text (ap holds e ∙ h) in
      laws.not_refused text start unit fault here.program.1 (subst (λ (x : List ℕ). IsProgramRefused text x fault) g unread.1)
  never holds s p d e f g h k (Definitions no_definitions.TooBig) refused = let big = refused.2 definitions (ap holds f ∙ k) in let small = here.defined.0 in absurd (omega arith)
  never holds s p d e f g h k (Definitions (no_definitions.Refused fault)) refused =
      let unit_is = one_unit refused.0 (subst (λ (x : List ℕ). IsProgramHere x text refused.0) g (refused.1 text (ap holds e ∙ h))) in
      let undefined = subst (λ (u : UnitTree). ReadsAs definitions (struct_infos u) (Err fault)) unit_is (refused.2 definitions (ap holds f ∙ k)).1 in
      let same = laws.defined_once definitions (struct_infos unit) (Err fault) (Ok defs) undefined here.defined.1 in absurd cc
  never holds s p d e f g h k (Misfit fault) refused =
      let unit_is = one_unit refused.0 (subst (λ (x : List ℕ). IsProgramHere x text refused.0) g (refused.1 text (ap holds e ∙ h))) in
      let others = refused.2.0 in
      let defs_are = one_defs others (subst (λ (u : UnitTree). AreDefinitions u others definitions) unit_is (refused.2.1 definitions (ap holds f ∙ k))) in
      let first = subst (λ (ds : List Def). HasMisfit unit ds fault) defs_are (subst (λ (u : UnitTree). HasMisfit u others fault) unit_is refused.2.2) in
      let found : told_of None (bind_faults unit defs) ≡ Some first.0 = first.1 in
      let none : None ≡ Some first.0 = ap (λ fs. told_of None fs) (sym here.fit) ∙ found in
      absurd cc

  -- the same program with its definitions has one flow graph
  pub one_flow : (flow other : Flow) → IsGraphOf start unit defs flow → IsGraphOf start unit defs other → other ≡ flow
  one_flow flow other one two =
      let g = one.graph in
      let h = two.graph in
      let lists : h.flow.structs.list ≡ g.flow.structs.list = two.structs ∙ sym one.structs in
      let structs : h.flow.structs ≡ g.flow.structs = ap (λ (l : List StructInfo). record { list = l }) lists in
      let same = laws.one_graph h g two.function one.function two.out two.count one.out one.count (two.program ∙ sym one.program) structs two.lowered one.lowered in
      sym two.is_its ∙ same.0 ∙ one.is_its

-- ---- verdicts

-- what is found and what its document is judged as
abbrev AlikeFound : Analysis → Found → Type 0
AlikeFound (analysis.Safe f) ending = checked_status ending ≡ statuses.Good
AlikeFound (analysis.Alarms f count) ending = checked_status ending ≡ statuses.Alarm
AlikeFound (analysis.Paths document) ending = ending ≡ Judged (Mistaken EndsEarly)
AlikeFound analysis.Unknown ending = Unit {0}

-- the verdict on the document of what was found
verdict_is : Laws → (flow : Flow) (defs : List Def) (merge : Bool) (found : Analysis) (document : List ℕ) (v : Verdict) → IsValid flow defs → IsAnalysis flow defs merge found
    → analysed_document (results.Found found) ≡ Some document → IsVerdictOn flow defs document v → AlikeFound found (Judged v)
verdict_is laws flow defs merge (analysis.Safe f) document v valid proved is said =
    let document_is : document ≡ f.document.items = cc in
    let certificate : IsCertificate flow defs f.document.items = record { lines = proved.lines; spelled = proved.spelled; holds = proved.valid } in
    let safe = said.0.safe.1 (subst (λ (t : List ℕ). IsCertificate flow defs t) (sym document_is) certificate) in
    ap (λ (x : Verdict). checked_status (Judged x)) safe
verdict_is laws flow defs merge (analysis.Alarms f count) document v valid found is said =
    let document_is : document ≡ f.document.items = cc in
    let known = laws.judged flow defs valid in
    let told = subst (λ (t : List ℕ). Tells flow defs t v) document_is said.0 in
    let alarms = alarms_said flow defs known.0.lines.know known.1.knows laws.legal merge f count v found told in
    ap (λ (x : Verdict). checked_status (Judged x)) alarms
verdict_is laws flow defs merge (analysis.Paths text) document v valid crowded is said =
    let document_is : document ≡ text.items = cc in
    let known = laws.judged flow defs valid in
    let spelled = subst (λ (t : List ℕ). SpellAll (lines_of t) crowded.lines) (sym document_is) crowded.spelled in
    let goes = front_goes_on known.0 flow defs laws.short (lines_of document) crowded.lines known.1 spelled crowded.crowded.front in
    let early = laws.early known.0 flow defs (lines_of document) v (said.1 known.0 known.1) goes in
    ap (λ (x : Verdict). Judged x) early
verdict_is laws flow defs merge analysis.Unknown document v valid found is said = tt

not_program : IsFoundStatus statuses.Program → ⊥
not_program (inl e) = cc
not_program (inr e) = cc

not_definitions : IsFoundStatus statuses.Definitions → ⊥
not_definitions (inl e) = cc
not_definitions (inr e) = cc

not_limit : IsFoundStatus statuses.Limit → ⊥
not_limit (inl e) = cc
not_limit (inr e) = cc

-- what left no document was not found
nothing_alike : (found : Analysis) (v : Verdict) → analysed_document (results.Found found) ≡ None → AlikeFound found (Judged v)
nothing_alike (analysis.Safe f) v e = absurd cc
nothing_alike (analysis.Alarms f count) v e = absurd cc
nothing_alike (analysis.Paths text) v e = absurd cc
nothing_alike analysis.Unknown v e = tt

end_alike : (found : Analysis) (ending : Found) → AlikeFound found ending → EndAlike (Analysed (results.Found found)) (Checked ending)
end_alike (analysis.Safe f) ending is = record { same = λ good. is; early = λ e. absurd cc }
end_alike (analysis.Alarms f count) ending is = record { same = λ good. is; early = λ e. absurd cc }
end_alike (analysis.Paths text) ending is = record { same = λ good. absurd (not_limit good); early = λ e. ap (λ (x : Found). Checked x) is }
end_alike analysis.Unknown ending is = record { same = λ good. absurd (not_program good); early = λ e. absurd cc }

module _ (laws : Laws) (after : Holds) (more : List (List ℕ)) (c : Check) (asks : AsksCheck more c) (text definitions : List ℕ) (told : after c.program.now ≡ Some text) (defined : after c.definitions.now ≡ Some definitions) (unit : UnitTree) (defs : List Def) (here : Given c.start.now text definitions unit defs) (flow : Flow) (graph : IsGraphOf c.start.now unit defs flow) (short : length flow.points ≤ 10000) (merge : Bool) (found : Analysis) (is_found : IsAnalysis flow defs merge found) (left : after c.document.now ≡ analysed_document (results.Found found)) where
  -- whatever reads these words names the same
  program_too : (d : Check) → AsksCheck more d → d.program.now ≡ c.program.now
  program_too d too = one_word check_app more _ d.program.now c.program.now too.program asks.program

  definitions_too : (d : Check) → AsksCheck more d → d.definitions.now ≡ c.definitions.now
  definitions_too d too = one_word check_app more _ d.definitions.now c.definitions.now too.definitions asks.definitions

  document_too : (d : Check) → AsksCheck more d → d.document.now ≡ c.document.now
  document_too d too = one_word check_app more _ d.document.now c.document.now too.document asks.document

  start_too : (d : Check) → AsksCheck more d → d.start.now ≡ c.start.now
  start_too d too = one_word check_app more _ d.start.now c.start.now too.start asks.start

  -- what is read now is what was read then
  same_unit : (d : Check) → AsksCheck more d → (u : UnitTree) (ds : List Def) → AreInputs after (sources_of (request.Check d)) u ds → (u ≡ unit) × (ds ≡ defs)
  same_unit d too u ds inputs =
      let there = given after (sources_of (request.Check d)) u ds c.start.now c.program.now c.definitions.now text definitions (program_too d too) (definitions_too d too) (start_too d too) told defined inputs in
      let unit_is = one_unit laws c.start.now text definitions unit defs here u there.program in
      (unit_is, one_defs laws c.start.now text definitions unit defs here ds (subst (λ (x : UnitTree). AreDefinitions x ds definitions) unit_is there.defined))

  -- the verdict on the document, if there is one
  verdict_on : (d : Check) → AsksCheck more d → (v : Verdict) → IsJudged after d unit defs v → (o : Option (List ℕ)) → analysed_document (results.Found found) ≡ o → AlikeFound found (Judged v)
  verdict_on d too v why None none = nothing_alike found v none
  verdict_on d too v why (Some document) some =
      let graph_too = subst (λ (s : List ℕ). IsGraphOf s unit defs why.flow) (start_too d too) why.graph in
      let flow_is = one_flow laws c.start.now text definitions unit defs here flow why.flow graph graph_too in
      let held : after d.document.now ≡ Some document = ap after (document_too d too) ∙ left ∙ some in
      let said = (why.told document held).0 in
      verdict_is laws flow defs merge found document v (subst (λ (f : Flow). IsValid f defs) flow_is why.valid) is_found some (subst (λ (f : Flow). IsVerdictOn f defs document v) flow_is said)

  judged : (d : Check) → AsksCheck more d → (ending : Found) → IsWhyChecked after d unit defs ending → AlikeFound found ending
  judged d too TooLong why =
      let graph_too = subst (λ (s : List ℕ). IsGraphOf s unit defs why.0) (start_too d too) why.1 in
      let flow_is = one_flow laws c.start.now text definitions unit defs here flow why.0 graph graph_too in
      let same : length why.0.points ≡ length flow.points = ap (λ (f : Flow). length f.points) flow_is in
      absurd (omega (arith, same, why.2, short))
  judged d too (Judged v) why = verdict_on d too v why (analysed_document (results.Found found)) refl

  refused_never : (r : Request) (refusal : Refusal) → Asks more r → IsRefusedFor after r refusal → ⊥
  refused_never (request.Check d) refusal too refused =
      never laws c.start.now text definitions unit defs here after (sources_of (request.Check d)) c.program.now c.definitions.now (program_too d too) (definitions_too d too) (start_too d too)
      told defined refusal refused
  refused_never (request.Run r) refusal too refused = no_run more c r asks too
  refused_never (request.Analyse a) refusal too refused = no_analysis more c a asks too
  refused_never (request.Demo n) refusal too refused = refused

  pub answers : (other : Answer) → IsWhyWords after more other → EndAlike (Analysed (results.Found found)) other
  answers Words why = absurd (why (request.Check c) asks)
  answers (Refused refusal) why = absurd (refused_never why.0 refusal why.1 why.2)
  answers (Checked ending) why =
      let same = same_unit why.0 why.1 why.2.0 why.2.1 why.2.2 in
      end_alike found ending
      (judged why.0 why.1 ending
      (subst (λ (ds : List Def). IsWhyChecked after why.0 unit ds ending) same.1 (subst (λ (u : UnitTree). IsWhyChecked after why.0 u why.2.1 ending) same.0 why.2.3)))
  answers (Ran ending) why = absurd (no_run more c why.0 asks why.1)
  answers (Analysed ending) why = absurd (no_analysis more c why.0 asks why.1)
  answers (Demo printed) why = absurd (no_demo_check more c why.0 asks why.1)

-- ---- both calls

-- what else an analysis may answer is neither a status of what was found nor of a limit
nothing_found : (one other : Answer) → (IsFoundStatus (status_of one) → ⊥) → (status_of one ≡ statuses.Limit → ⊥) → EndAlike one other
nothing_found one other good limit = record { same = λ e. absurd (good e); early = λ e. absurd (limit e) }

alike_found : Laws → (before after : Holds) (words more : List (List ℕ)) (a : Analyse) (c : Check) (found : Analysis) (other : Answer) → AsksAnalyse words a → AsksCheck more c
    → NamesSame a c → AreStill before after a → IsWhyWords before words (Analysed (results.Found found))
    → after c.document.now ≡ analysed_document (results.Found found) → IsWhyWords after more other → EndAlike (Analysed (results.Found found)) other
alike_found laws before after words more a c found other asks too names still why left then =
    let b = why.0 in
    let unit = why.2.0 in
    let defs = why.2.1 in
    let what = why.2.3 in
    let program_is : b.program.now ≡ a.program.now = one_word analyse_app words _ b.program.now a.program.now why.1.program asks.program in
    let definitions_are : b.definitions.now ≡ a.definitions.now = one_word analyse_app words _ b.definitions.now a.definitions.now why.1.definitions asks.definitions in
    let start_is : b.start.now ≡ c.start.now = one_word analyse_app words _ b.start.now a.start.now why.1.start asks.start ∙ sym names.start in
    let here = given before (sources_of (request.Analyse b)) unit defs c.start.now a.program.now a.definitions.now still.text still.definitions program_is definitions_are start_is
    still.program_before still.definitions_before why.2.2 in
    answers laws after more c too still.text still.definitions (ap after names.program ∙ still.program_after) (ap after names.definitions ∙ still.definitions_after) unit defs here what.0
    (subst (λ (s : List ℕ). IsGraphOf s unit defs what.0) start_is what.1) what.2 b.merge found what.3.0 left other then

pub alike : Laws → AreJudgedAlike
alike laws before after words more a c Words other asks too names still why left then = absurd (why (request.Analyse a) asks)
alike laws before after words more a c (Refused (Program cause)) other asks too names still why left then = nothing_found (Refused (Program cause)) other not_program (λ e. cc)
alike laws before after words more a c (Refused (Definitions cause)) other asks too names still why left then = nothing_found (Refused (Definitions cause)) other not_definitions (λ e. cc)
alike laws before after words more a c (Refused (Misfit fault)) other asks too names still why left then = nothing_found (Refused (Misfit fault)) other not_program (λ e. cc)
alike laws before after words more a c (Checked ending) other asks too names still why left then = absurd (no_analysis words why.0 a why.1 asks)
alike laws before after words more a c (Ran ending) other asks too names still why left then = absurd (no_other words why.0 a why.1 asks)
alike laws before after words more a c (Demo printed) other asks too names still why left then = absurd (no_demo_analysis words a why.0 asks why.1)
alike laws before after words more a c (Analysed results.TooLong) other asks too names still why left then = nothing_found (Analysed results.TooLong) other not_program (λ e. cc)
alike laws before after words more a c (Analysed (results.Found found)) other asks too names still why left then = alike_found laws before after words more a c found other asks too names still why left then
alike laws before after words more a c (Analysed (results.Tried f count text)) other asks too names still why left then =
    let ends = alike_found laws before after words more a c (analysis.Alarms f count) other asks too names still (why.0, why.1, (why.2.0, why.2.1, why.2.2, why.2.3.0)) left then in
    record { same = ends.same; early = ends.early }
