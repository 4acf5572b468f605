-- Why a call of the program ends as it does.
use Rattle.std.specs.Prelude.{◌≡◌, ◌++◌, ◌⊎◌, ◌↔◌, ℕ, List, [], Option, None, Some, Result, Ok, Err, option_map, take, ⊤}
use Rattle.std.specs.Borrow.{Bor}
use Rattle.mc_c_syntax.specs.Ast.Trees.{UnitTree}
use Rattle.mc_flow.specs.declared.defs.rules.Def.{Def}
use Rattle.mc_load.specs.Inputs.Inputs.{AreInputs, Holds, IsRefused}
use Rattle.mc_load.specs.declared.inputs.reading.Sources.{Sources}
use Rattle.mc_load.specs.declared.inputs.refusal.Refusal.{Refusal}
use Rattle.mc_load.specs.declared.inputs.refusal.Refusal.TheVariants as refusals
use Rattle.mc_run.specs.declared.interpret.ending.Ending.TheVariants as ending
use Rattle.mc_judge.specs.declared.judge.verdict.Verdict.TheVariants.{Safe, Alarms, Refused as Mistaken}
use Rattle.mc_outside.specs.declared.outside.FileFault.{FileFault}
use Rattle.mc_outside.specs.Outside.{WhereTold, AddsIfTold, OthersStay, Stays}
use Rattle.mc_find.specs.declared.analysis.analysis.Analysis.TheVariants as analysis
use Rattle.mc_app.specs.declared.words.words.Analyse.{Analyse}
use Rattle.mc_app.specs.declared.words.words.Check.{Check}
use Rattle.mc_app.specs.declared.words.words.Request.{Request}
use Rattle.mc_app.specs.declared.words.words.Request.TheVariants as request
use Rattle.mc_app.specs.declared.words.words.Run.{Run}
use Rattle.mc_app.specs.Demo.Demo.{IsDemo}
use Rattle.mc_app.specs.Words.Words.{Asks, AsksAnalyse, AsksCheck, AsksDemo, AsksRun}
use Rattle.mc_outside.specs.Saving.Saving.{IsFront, WhereAnyTold}
use Rattle.mc_app.specs.Analyses.{IsTarget, IsWhyAnalysed}
use Rattle.mc_app.specs.Checks.{IsSafeWhereTold, IsWhyChecked}
use Rattle.mc_app.specs.Printing.{text_of}
use Rattle.mc_app.specs.Runs.{IsWhyRan}
use Rattle.mc_app.specs.declared.answer.Answer.{Answer}
use Rattle.mc_app.specs.declared.answer.Answer.TheVariants.{Words, Refused, Checked, Ran, Analysed, Demo}
use Rattle.mc_app.specs.declared.analysing.Analysed.{Analysed as Results}
use Rattle.mc_app.specs.declared.analysing.Analysed.TheVariants as results
use Rattle.mc_app.specs.declared.answer.Status.{Status}
use Rattle.mc_app.specs.declared.answer.Status.TheVariants as statuses
use Rattle.mc_app.specs.declared.checking.Checked.{Checked as Found}
use Rattle.mc_app.specs.declared.checking.Checked.TheVariants.{TooLong, Judged}
use Rattle.mc_app.specs.declared.running.Ran.{Ran as Came}
use Rattle.mc_app.specs.declared.running.Ran.TheVariants.{TooBig, To}

-- ---- causes

-- no file
abbrev pub no_file : Bor (List ℕ)
no_file = record { ref_ptr = (0, 0); now = [] }

-- the files of the program and its definitions, which a command names before its own; `demo` names none
abbrev pub sources_of : Request → Sources
sources_of (request.Check c) = record { program = c.program; definitions = c.definitions; start = c.start }
sources_of (request.Run r) = record { program = r.program; definitions = r.definitions; start = r.start }
sources_of (request.Analyse a) = record { program = a.program; definitions = a.definitions; start = a.start }
sources_of (request.Demo n) = record { program = no_file; definitions = no_file; start = no_file }

-- the files that a request names are refused; where it names none, nothing is
abbrev pub IsRefusedFor : Holds → Request → Refusal → Type 0
IsRefusedFor holds (request.Check c) refusal = IsRefused holds (sources_of (request.Check c)) refusal
IsRefusedFor holds (request.Run r) refusal = IsRefused holds (sources_of (request.Run r)) refusal
IsRefusedFor holds (request.Analyse a) refusal = IsRefused holds (sources_of (request.Analyse a)) refusal
IsRefusedFor holds (request.Demo n) refusal = ⊥

-- the files are a program with its definitions, which it fits, and of these this is so
abbrev pub IsOver : Holds → Sources → (UnitTree → List Def → Type 0) → Type 0
IsOver holds sources IsSo = (unit : UnitTree) × (defs : List Def) × AreInputs holds sources unit defs × IsSo unit defs

-- why this is answered for these words: they ask for nothing; the program or its definitions are refused, with their cause;
-- or both are read and fit, and the command has its own cause;
-- or they ask for programs that are made from a number
abbrev pub IsWhyWords : Holds → List (List ℕ) → Answer → Type 0
IsWhyWords holds words Words = (r : Request) → Asks words r → ⊥
IsWhyWords holds words (Refused refusal) = (r : Request) × Asks words r × IsRefusedFor holds r refusal
IsWhyWords holds words (Checked found) =
    (c : Check) × AsksCheck words c × IsOver holds (sources_of (request.Check c)) (λ unit defs. IsWhyChecked holds c unit defs found)
IsWhyWords holds words (Ran found) =
    (r : Run) × AsksRun words r × IsOver holds (sources_of (request.Run r)) (λ unit defs. IsWhyRan holds r unit defs found)
IsWhyWords holds words (Analysed found) =
    (a : Analyse) × AsksAnalyse words a × IsOver holds (sources_of (request.Analyse a)) (λ unit defs. IsWhyAnalysed a unit defs found)
IsWhyWords holds words (Demo text) = (n : ℕ) × AsksDemo words n × IsDemo n text.items

-- a request whose status 0 means that no run has a fault
abbrev pub AsksForSafety : Request → Type 0
AsksForSafety (request.Check c) = Unit {0}
AsksForSafety (request.Run r) = ⊥
AsksForSafety (request.Analyse a) = Unit {0}
AsksForSafety (request.Demo n) = ⊥

-- ---- statuses

abbrev pub refusal_status : Refusal → Status
refusal_status (refusals.Program cause) = statuses.Program
refusal_status (refusals.Definitions cause) = statuses.Definitions
refusal_status (refusals.Misfit fault) = statuses.Program

abbrev pub checked_status : Found → Status
checked_status TooLong = statuses.Program
checked_status (Judged Safe) = statuses.Good
checked_status (Judged (Alarms count)) = statuses.Alarm
checked_status (Judged (Mistaken refusal)) = statuses.Document

abbrev pub ran_status : Came → Status
ran_status TooBig = statuses.Document
ran_status (To ending.Ended) = statuses.Good
ran_status (To ending.Stopped) = statuses.Good
ran_status (To (ending.Fault kind place)) = statuses.Alarm
ran_status (To ending.FuelSpent) = statuses.Limit
ran_status (To (ending.Short number)) = statuses.Document
ran_status (To (ending.Bad number)) = statuses.Document

abbrev pub analysed_status : Results → Status
analysed_status results.TooLong = statuses.Program
analysed_status (results.Found (analysis.Safe f)) = statuses.Good
analysed_status (results.Found (analysis.Alarms f count)) = statuses.Alarm
analysed_status (results.Tried f count text) = statuses.Alarm
analysed_status (results.Found (analysis.Paths document)) = statuses.Limit
analysed_status (results.Found analysis.Unknown) = statuses.Program

-- the status of an answer
abbrev pub status_of : Answer → Status
status_of Words = statuses.Words
status_of (Refused refusal) = refusal_status refusal
status_of (Checked found) = checked_status found
status_of (Ran found) = ran_status found
status_of (Analysed found) = analysed_status found
status_of (Demo text) = statuses.Good

-- the number of a status
abbrev pub code_of : Status → ℕ
code_of statuses.Good = 0
code_of statuses.Alarm = 1
code_of statuses.Words = 2
code_of statuses.Program = 3
code_of statuses.Definitions = 4
code_of statuses.Limit = 5
code_of statuses.Document = 6
code_of statuses.Device = 7
code_of statuses.Memory = 8

-- ---- documents

-- the document that an analysis has written
abbrev pub analysed_document : Results → Option (List ℕ)
analysed_document results.TooLong = None
analysed_document (results.Found (analysis.Safe f)) = Some f.document.items
analysed_document (results.Found (analysis.Alarms f count)) = Some f.document.items
analysed_document (results.Tried f count text) = Some f.document.items
analysed_document (results.Found (analysis.Paths document)) = Some document.items
analysed_document (results.Found analysis.Unknown) = None

abbrev pub document_of : Answer → Option (List ℕ)
document_of Words = None
document_of (Refused refusal) = None
document_of (Checked found) = None
document_of (Ran found) = None
document_of (Analysed found) = analysed_document found
document_of (Demo text) = None

-- the words ask for this request, or for none
abbrev pub IsAsked : List (List ℕ) → Option Request → Type 0
IsAsked words None = (r : Request) → Asks words r → ⊥
IsAsked words (Some r) = Asks words r

-- the file that the document of a request goes into
abbrev pub target_of : Option Request → Option (List ℕ)
target_of None = None
target_of (Some (request.Check c)) = None
target_of (Some (request.Run r)) = None
target_of (Some (request.Analyse a)) = option_map (λ s. s.now) a.document
target_of (Some (request.Demo n)) = None

-- this is the file that the words name for the document, if they name one
abbrev pub HasTarget : List (List ℕ) → Option (List ℕ) → Type 0
HasTarget words target = (name : List ℕ) → (target ≡ Some name) ↔ IsTarget words name

-- where the words ask for it, no run of the program has a fault
abbrev pub IsSafeForWords : Holds → List (List ℕ) → Type 0
IsSafeForWords holds words = (r : Request) → Asks words r → AsksForSafety r → IsSafeWhereTold holds (sources_of r)

-- the file of this name holds the document, or is as it was where there is none
abbrev pub HoldsDocument : Holds → Holds → List ℕ → Option (List ℕ) → Type 0
HoldsDocument old new name None = new name ≡ old name
HoldsDocument old new name (Some text) = WhereAnyTold old (new name ≡ Some text)

-- the file of this name is as it was, or holds the front of the document
abbrev pub HoldsFront : Holds → Holds → List ℕ → Option (List ℕ) → Type 0
HoldsFront old new name None = new name ≡ old name
HoldsFront old new name (Some text) = (new name ≡ old name) ⊎ WhereAnyTold old (IsFront text (new name))

-- the document is written into the target; after a fault the target is as it was, or holds the front of it; the others stay
abbrev pub Keeps : (old new : Holds) → (target document : Option (List ℕ)) → Result ⊤ FileFault → Type 0
Keeps old new None document result = Stays old new
Keeps old new (Some name) document (Ok _) = HoldsDocument old new name document × OthersStay name old new
Keeps old new (Some name) document (Err _) = HoldsFront old new name document × OthersStay name old new

-- every file is as it was, but the one that the words name for the document
abbrev pub OnlyTargetChanges : List (List ℕ) → Holds → Holds → Type 0
OnlyTargetChanges words old new = (name : List ℕ) → (IsTarget words name → ⊥) → new name ≡ old name

-- the file that the words name for the document is as it was, or holds the front of one whose answer has its cause
abbrev pub TargetHoldsPart : List (List ℕ) → Holds → Holds → Type 0
TargetHoldsPart words old new =
    (name : List ℕ) → IsTarget words name → (new name ≡ old name)
    ⊎ ((a : Answer) × IsWhyWords old words a × HoldsFront old new name (document_of a))

-- ---- calls

-- the status is that of an answer that has its cause, its document stands where the words want it, and its text was added to
-- what was written
pub record Answers (holds after : Holds) (words : List (List ℕ)) (old new : Option (List ℕ)) (status : Status) : Type 0 where
  pub answer : Answer
  pub is_its : status ≡ status_of answer
  pub why : IsWhyWords holds words answer
  pub leaves : (name : List ℕ) → IsTarget words name → HoldsDocument holds after name (document_of answer)
  pub prints : AddsIfTold old (text_of answer) new (Ok tt)

-- a call ends with an answer, or with the status of a fault
abbrev pub EndsWith : (holds after : Holds) → List (List ℕ) → (old new : Option (List ℕ)) → Status → Type 0
EndsWith holds after words old new statuses.Device = Unit {0}
EndsWith holds after words old new statuses.Memory = Unit {0}
EndsWith holds after words old new status = Answers holds after words old new status

-- nothing was added where this is known; or the text of an answer that has its cause, or the front of it, and the answer's document
-- stands where the words want it
abbrev pub PrintsPart : (holds after : Holds) → List (List ℕ) → Option (List ℕ) → Option (List ℕ) → Type 0
PrintsPart holds after words old new =
    WhereTold old (λ before. (now : List ℕ) × (new ≡ Some now) × ((now ≡ before)
    ⊎ ((a : Answer) × (n : ℕ) × IsWhyWords holds words a
    × ((name : List ℕ) → IsTarget words name → HoldsDocument holds after name (document_of a))
    × (now ≡ before ++ take n (text_of a)))))
