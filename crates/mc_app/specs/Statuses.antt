-- What a call's status means where its words give a command.
use Rattle.std.specs.Prelude.{◌≡◌, ◌<◌, ◌⊎◌, ℕ, false, List, Option, Some, Ok, length, map}
use Rattle.mc_c_syntax.specs.Ast.Trees.{UnitTree}
use Rattle.mc_exact.specs.Marks.{Alarm as MarkedAlarm}
use Rattle.mc_find.specs.Analysis.Findings.{HasTooManyPaths}
use Rattle.mc_flow.specs.declared.defs.rules.Def.{Def}
use Rattle.mc_flow.specs.declared.graph.Flow.{Flow}
use Rattle.mc_follow.specs.Report.Report.{IsChainReport}
use Rattle.mc_kernel.specs.Branches.{Path}
use Rattle.mc_kernel.specs.Certificates.{WrittenHead}
use Rattle.mc_load.specs.Inputs.Inputs.{AreInputs, Holds}
use Rattle.mc_load.specs.Inputs.Texts.{AreDefinitions, IsProgramHere}
use Rattle.mc_load.specs.Lowered.Graphs.{IsGraphOf, IsLong}
use Rattle.mc_outside.specs.Outside.{AddsIfTold, WhereTold}
use Rattle.mc_app.specs.declared.analysing.Analysed.{Analysed}
use Rattle.mc_app.specs.declared.answer.Status.{Status}
use Rattle.mc_app.specs.declared.answer.Status.TheVariants.{Good, Alarm, Words, Program, Definitions}
use Rattle.mc_app.specs.declared.answer.Status.TheVariants.{Limit, Document, Device, Memory}
use Rattle.mc_app.specs.declared.checking.Checked.{Checked}
use Rattle.mc_app.specs.declared.running.Ran.{Ran}
use Rattle.mc_app.specs.declared.words.words.Analyse.{Analyse}
use Rattle.mc_app.specs.declared.words.words.Request.{Request}
use Rattle.mc_app.specs.declared.words.words.Request.TheVariants as request
use Rattle.mc_app.specs.Analyses.{IsWhyAnalysed}
use Rattle.mc_app.specs.Answers.{AsksForSafety, analysed_status, checked_status, ran_status, sources_of}
use Rattle.mc_app.specs.Blocked.{FaultsComeBy}
use Rattle.mc_app.specs.Checks.{IsSafeUnit, IsWhyChecked}
use Rattle.mc_app.specs.Documents.{IsFinalChain}
use Rattle.mc_app.specs.Real.{AreReal, IsClosedUnit}
use Rattle.mc_app.specs.Runs.{IsWhyRan}
use Rattle.mc_app.specs.Tried.{IsShown}
use Rattle.mc_app.specs.Words.Words.{Asks}

-- ---- alarms

-- every run of the program that has a fault comes by one of these blocked branches, of which there are some
pub record TellsFaults (start : List ℕ) (unit : UnitTree) (defs : List Def) (stuck : List Path) (flow : Flow) : Type 0 where
  pub graph : IsGraphOf start unit defs flow
  pub some : 0 < length stuck
  pub finds : FaultsComeBy start unit defs flow stuck

-- these are the blocked branches of the document that a check was given, or those whose report an analysis has printed: of them,
-- those with answers of malloc are real, and where the line of a script is printed behind an alarm's, the program faults there on it
abbrev pub AlarmsMean : Holds → (old new : Option (List ℕ)) → UnitTree → List Def → Request → Type 0
AlarmsMean holds old new unit defs (request.Check c) =
    WhereTold (holds c.document.now)
    (λ document. (flow : Flow) × (stuck : List Path) × IsFinalChain flow defs document stuck × TellsFaults c.start.now unit defs stuck flow)
AlarmsMean holds old new unit defs (request.Run r) = Unit {0}
AlarmsMean holds old new unit defs (request.Demo n) = Unit {0}
AlarmsMean holds old new unit defs (request.Analyse a) =
    (flow : Flow) × (heads : List WrittenHead) × (alarms : List MarkedAlarm) × (report : List ℕ) × (text : List ℕ)
    × IsChainReport flow defs heads alarms report × IsShown a.start.now unit defs report text × AddsIfTold old text new (Ok tt)
    × TellsFaults a.start.now unit defs (map (λ x. x.0) alarms) flow × AreReal a.start.now unit defs flow a.merge alarms

-- the words ask for a check or an analysis, and where it is known what the files of its program and definitions hold, they are a
-- program and its definitions, of whose faults the alarms tell
abbrev pub AlarmsTell : Holds → List (List ℕ) → (old new : Option (List ℕ)) → Type 0
AlarmsTell holds words old new =
    (r : Request) → Asks words r → AsksForSafety r
    → WhereTold (holds (sources_of r).program.now) (λ text. WhereTold (holds (sources_of r).definitions.now) (λ definitions.
    (unit : UnitTree) × (defs : List Def) × IsProgramHere (sources_of r).start.now text unit × AreDefinitions unit defs definitions
    × AlarmsMean holds old new unit defs r))

-- ---- completeness

-- the words ask for this, and the files of its program and definitions are known, are read, and fit
pub record IsReady (holds : Holds) (words : List (List ℕ)) (r : Request) (unit : UnitTree) (defs : List Def) : Type 0 where
  pub asks : Asks words r
  pub text : List ℕ
  pub definitions : List ℕ
  pub is_text : holds (sources_of r).program.now ≡ Some text
  pub are_definitions : holds (sources_of r).definitions.now ≡ Some definitions
  pub inputs : AreInputs holds (sources_of r) unit defs

-- a command whose program and definitions are these ends with this status: a check by its document alone, a run by its script and
-- its steps, an analysis by what it found; `demo` ends well
abbrev pub EndsBy : Holds → Request → UnitTree → List Def → Status → Type 0
EndsBy holds (request.Check c) unit defs status =
    (found : Checked) × IsWhyChecked holds c unit defs found × (status ≡ checked_status found)
EndsBy holds (request.Demo n) unit defs status = status ≡ Good
EndsBy holds (request.Run r) unit defs status = (found : Ran) × IsWhyRan holds r unit defs found × (status ≡ ran_status found)
EndsBy holds (request.Analyse a) unit defs status =
    (found : Analysed) × IsWhyAnalysed a unit defs found × (status ≡ analysed_status found)

-- a command that has its program and definitions ends by them, unless the device failed or memory ran out
abbrev pub IsComplete : Holds → List (List ℕ) → Status → Type 0
IsComplete holds words status =
    (r : Request) (unit : UnitTree) (defs : List Def) → IsReady holds words r unit defs
    → (status ≡ Device) ⊎ ((status ≡ Memory) ⊎ ((q : Request) × Asks words q × EndsBy holds q unit defs status))

-- ---- decisions

-- a chain of the program's flow graph ends more branches than are followed
abbrev pub HasManyPaths : (start : List ℕ) → UnitTree → List Def → Type 0
HasManyPaths start unit defs =
    (flow : Flow) × (document : List ℕ) × IsGraphOf start unit defs flow × HasTooManyPaths flow defs document

-- the status of an analysis tells whether some run of the program has a fault, unless the program is too long or has too many
-- paths, the device failed or memory ran out
abbrev pub Decides : (start : List ℕ) → UnitTree → List Def → Status → Type 0
Decides start unit defs Good = IsSafeUnit start unit defs
Decides start unit defs Alarm = IsSafeUnit start unit defs → ⊥
Decides start unit defs Program = IsLong start unit defs
Decides start unit defs Limit = HasManyPaths start unit defs
Decides start unit defs Device = Unit {0}
Decides start unit defs Memory = Unit {0}
Decides start unit defs Words = ⊥
Decides start unit defs Definitions = ⊥
Decides start unit defs Document = ⊥

-- an analysis of a closed program, which is read and fits its definitions, decides it, unless it merges states: then an alarm need
-- not be real
abbrev pub IsDecided : Holds → List (List ℕ) → Status → Type 0
IsDecided holds words status =
    (a : Analyse) (unit : UnitTree) (defs : List Def) → IsReady holds words (request.Analyse a) unit defs
    → a.merge ≡ false → IsClosedUnit a.start.now unit defs → Decides a.start.now unit defs status
