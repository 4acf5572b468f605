-- What is printed with an answer.
use Rattle.std.specs.Prelude.{ℕ, List, ◌++◌, codes}
use Rattle.std.specs.Fmt.{decimal}
use Rattle.mc_base.specs.declared.plain.FaultKind.{FaultKind}
use Rattle.mc_base.specs.declared.plain.FaultKind.TheVariants as kind
use Rattle.mc_lines.specs.declared.cert.fault.LineFault.{LineFault}
use Rattle.mc_lines.specs.declared.cert.fault.LineFault.TheVariants as line_fault
use Rattle.mc_load.specs.Inputs.Printing.{refusal_text}
use Rattle.mc_run.specs.declared.interpret.ending.Ending.{Ending}
use Rattle.mc_run.specs.declared.interpret.ending.Ending.TheVariants as ending
use Rattle.mc_judge.specs.declared.judge.verdict.Refusal.{Refusal as Mistake}
use Rattle.mc_judge.specs.declared.judge.verdict.Refusal.TheVariants as mistake
use Rattle.mc_judge.specs.declared.judge.verdict.Verdict.{Verdict}
use Rattle.mc_judge.specs.declared.judge.verdict.Verdict.TheVariants as verdict
use Rattle.mc_base.specs.Text.Places.{place_text}
use Rattle.mc_find.specs.declared.analysis.analysis.Analysis.TheVariants as analysis
use Rattle.mc_app.specs.declared.analysing.Analysed.{Analysed as Results}
use Rattle.mc_app.specs.declared.analysing.Analysed.TheVariants as results
use Rattle.mc_app.specs.declared.answer.Answer.{Answer}
use Rattle.mc_app.specs.declared.answer.Answer.TheVariants.{Words, Refused, Checked, Ran, Analysed, Demo}
use Rattle.mc_app.specs.declared.checking.Checked.{Checked as Found}
use Rattle.mc_app.specs.declared.checking.Checked.TheVariants as found
use Rattle.mc_app.specs.declared.running.Ran.{Ran as Came}
use Rattle.mc_app.specs.declared.running.Ran.TheVariants.{TooBig, To}

-- why bytes are no line
abbrev pub line_fault_text : LineFault → List ℕ
line_fault_text line_fault.NotJson = codes "NotJson"
line_fault_text line_fault.Form = codes "Form"
line_fault_text line_fault.Version = codes "Version"
line_fault_text line_fault.NoMemory = codes "NoMemory"

-- the number of a line, and a comma after it
abbrev pub line_text : ℕ → List ℕ
line_text number = codes "line " ++ decimal number ++ codes ", "

-- why a document is refused
abbrev pub mistake_text : Mistake → List ℕ
mistake_text (mistake.Line number fault) = line_text number ++ line_fault_text fault
mistake_text (mistake.Rule number name premise) = line_text number ++ name.now ++ codes ", premise " ++ decimal premise
mistake_text (mistake.AfterEnd number) = line_text number ++ codes "after the end"
mistake_text mistake.EndsEarly = codes "ends early"
mistake_text mistake.NoAlarm = codes "no alarm"
mistake_text mistake.Unfinished = codes "unfinished"

-- the verdict on a document
abbrev pub verdict_text : Verdict → List ℕ
verdict_text verdict.Safe = codes "safe"
verdict_text (verdict.Alarms count) = codes "alarms: " ++ decimal count
verdict_text (verdict.Refused refusal) = codes "refused: " ++ mistake_text refusal

-- what a check comes to
abbrev pub checked_text : Found → List ℕ
checked_text found.TooLong = codes "program: TooLong"
checked_text (found.Judged v) = verdict_text v

-- the kind of a fault
abbrev pub kind_text : FaultKind → List ℕ
kind_text kind.Null = codes "null"
kind_text kind.Freed = codes "freed"
kind_text kind.Uninit = codes "uninit"
kind_text kind.BadFree = codes "badfree"
kind_text kind.Assertion = codes "assertion"
kind_text kind.Shape = codes "shape"
kind_text kind.NotEmpty = codes "notempty"

-- what a program comes to
abbrev pub ending_text : Ending → List ℕ
ending_text ending.Ended = codes "ended"
ending_text ending.Stopped = codes "stopped"
ending_text (ending.Fault kind place) = codes "fault: " ++ kind_text kind ++ codes " at " ++ place_text place
ending_text ending.FuelSpent = codes "limit: fuel"
ending_text (ending.Short number) = codes "script: short at " ++ decimal number
ending_text (ending.Bad number) = codes "script: bad at " ++ decimal number

-- what a run comes to
abbrev pub ran_text : Came → List ℕ
ran_text TooBig = codes "script: TooBig"
ran_text (To ending) = ending_text ending

-- a text as a line
abbrev pub line : List ℕ → List ℕ
line text = text ++ codes "\n"

-- what an analysis comes to: a report of its own, or a line
abbrev pub analysed_text : Results → List ℕ
analysed_text results.TooLong = line (codes "program: TooLong")
analysed_text (results.Found (analysis.Safe f)) = f.report.items
analysed_text (results.Found (analysis.Alarms f count)) = f.report.items
analysed_text (results.Tried f count text) = text.items
analysed_text (results.Found (analysis.Paths document)) = line (codes "limit: Paths")
analysed_text (results.Found analysis.Unknown) = line (codes "program: NotYet")

-- an answer
abbrev pub text_of : Answer → List ℕ
text_of Words = line (codes "words: refused")
text_of (Refused refusal) = line (refusal_text refusal)
text_of (Checked found) = line (checked_text found)
text_of (Ran found) = line (ran_text found)
text_of (Analysed found) = analysed_text found
text_of (Demo text) = text.items
