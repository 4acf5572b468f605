-- The document that an analysis has left, where it is checked.
use Rattle.std.specs.Prelude.{◌≡◌, ◌⊎◌, List, Option, Some, Ok, ℕ, codes}
use Rattle.mc_judge.specs.declared.judge.verdict.Refusal.TheVariants.{EndsEarly}
use Rattle.mc_judge.specs.declared.judge.verdict.Verdict.TheVariants.{Refused}
use Rattle.mc_load.specs.Inputs.Inputs.{Holds}
use Rattle.mc_outside.specs.Outside.{AddsIfTold}
use Rattle.mc_app.specs.declared.words.words.Analyse.{Analyse}
use Rattle.mc_app.specs.declared.words.words.Check.{Check}
use Rattle.mc_app.specs.Words.Words.{AsksAnalyse, AsksCheck}
use Rattle.mc_app.specs.Answers.{IsWhyWords, document_of, status_of}
use Rattle.mc_app.specs.declared.answer.Answer.{Answer}
use Rattle.mc_app.specs.declared.answer.Answer.TheVariants.{Checked}
use Rattle.mc_app.specs.declared.checking.Checked.TheVariants.{Judged}
use Rattle.mc_app.specs.declared.answer.Status.{Status}
use Rattle.mc_app.specs.declared.answer.Status.TheVariants.{Good, Alarm, Limit, Document, Device, Memory}

-- a check names the program, the definitions and the entry of an analysis
pub record NamesSame (a : Analyse) (c : Check) : Type 0 where
  pub program : c.program.now ≡ a.program.now
  pub definitions : c.definitions.now ≡ a.definitions.now
  pub start : c.start.now ≡ a.start.now

-- it is known what the files of an analysis hold, and they hold it afterwards
pub record AreStill (before after : Holds) (a : Analyse) : Type 0 where
  pub text : List ℕ
  pub definitions : List ℕ
  pub program_before : before a.program.now ≡ Some text
  pub program_after : after a.program.now ≡ Some text
  pub definitions_before : before a.definitions.now ≡ Some definitions
  pub definitions_after : after a.definitions.now ≡ Some definitions

-- the status of a program that is safe, or that has alarms
abbrev pub IsFoundStatus : Status → Type 0
IsFoundStatus s = (s ≡ Good) ⊎ (s ≡ Alarm)

-- an analysis and a check of the document that it has left end alike: with the same status where the program is safe or has alarms;
-- where the analysis came to its limit, the document ends early
pub record EndAlike (one other : Answer) : Type 0 where
  pub same : IsFoundStatus (status_of one) → status_of other ≡ status_of one
  pub early : status_of one ≡ Limit → other ≡ Checked (Judged (Refused EndsEarly))

-- they do so where the program and its definitions are still the same
abbrev pub AreJudgedAlike : Type 0
AreJudgedAlike =
    (before after : Holds) (words more : List (List ℕ)) (a : Analyse) (c : Check) (one other : Answer)
    → AsksAnalyse words a → AsksCheck more c → NamesSame a c → AreStill before after a
    → IsWhyWords before words one → after c.document.now ≡ document_of one
    → IsWhyWords after more other → EndAlike one other

-- the status, and what was printed, of a check of a document that an analysis left
abbrev pub EndsLike : Answer → (old new : Option (List ℕ)) → Status → Type 0
EndsLike one old new status =
    (IsFoundStatus (status_of one) → status ≡ status_of one)
    × (status_of one ≡ Limit → (status ≡ Document) × AddsIfTold old (codes "refused: ends early\n") new (Ok tt))

-- where the words ask for a check of the document that an analysis of the same program and definitions has left, the call ends like it,
-- unless the device failed or memory ran out
abbrev pub IsLikeAnalysis : Holds → List (List ℕ) → (old new : Option (List ℕ)) → Status → Type 0
IsLikeAnalysis after more old new status =
    (before : Holds) (words : List (List ℕ)) (a : Analyse) (c : Check) (one : Answer)
    → AsksAnalyse words a → AsksCheck more c → NamesSame a c → AreStill before after a
    → IsWhyWords before words one → after c.document.now ≡ document_of one
    → (status ≡ Device) ⊎ ((status ≡ Memory) ⊎ EndsLike one old new status)
