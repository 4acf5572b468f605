-- What a call prints and leaves that asks for programs that are made.
use Rattle.std.proofs.Common.{◌≡◌, ◌∙◌, ◌++◌, ℕ, List, inl, inr, refl, sym, subst}
use Rattle.std.specs.Prelude.{Option, Some}
use Rattle.mc_load.specs.Inputs.Inputs.{Holds}
use Rattle.mc_app.specs.Analyses.{IsTarget}
use Rattle.mc_app.specs.Answers.{Answers, EndsWith, IsWhyWords, OnlyTargetChanges, PrintsPart}
use Rattle.mc_app.specs.Demo.Ending.{DemosAreAnswered, EndsWellForDemo, IsDemoFor, LeavesFilesForDemo, PrintsDemo}
use Rattle.mc_app.specs.Printing.{text_of}
use Rattle.mc_app.specs.Words.Words.{AsksDemo}
use Rattle.mc_app.specs.declared.answer.Answer.{Answer}
use Rattle.mc_app.specs.declared.answer.Answer.TheVariants.{Words, Refused, Checked, Ran, Analysed, Demo}
use Rattle.mc_app.specs.declared.answer.Status.{Status}
use Rattle.mc_app.specs.declared.answer.Status.TheVariants as statuses
use Rattle.mc_app.specs.declared.words.words.Request.TheVariants as request
use Rattle.mc_app.proofs.Asked.{no_demo_analysis, no_demo_check, no_demo_run}
use Rattle.mc_app.proofs.Seeing.{answer_ends_demo, not_refused}

-- the answer to such words is a text of these programs
demo_for : (holds : Holds) (words : List (List ℕ)) (a : Answer) (n : ℕ) → AsksDemo words n → IsWhyWords holds words a → IsDemoFor words (text_of a)
demo_for holds words Words n asks why = absurd (why (request.Demo n) asks)
demo_for holds words (Refused refusal) n asks why = absurd (not_refused holds words why.0 refusal n why.1 why.2 asks)
demo_for holds words (Checked found) n asks why = absurd (no_demo_check words why.0 n why.1 asks)
demo_for holds words (Ran found) n asks why = absurd (no_demo_run words why.0 n why.1 asks)
demo_for holds words (Analysed found) n asks why = absurd (no_demo_analysis words why.0 n why.1 asks)
demo_for holds words (Demo text) n asks why = record { number = why.0; asks = why.1; is_text = why.2 }

-- a call that ends well has printed all of it
whole_for : (holds after : Holds) (words : List (List ℕ)) (old new : Option (List ℕ)) (status : Status) (n : ℕ) (before now : List ℕ) → AsksDemo words n → EndsWith holds after words old new status
    → old ≡ Some before → new ≡ Some now → status ≡ statuses.Good → (text : List ℕ) × IsDemoFor words text × (now ≡ before ++ text)
whole_for holds after words old new status n before now asks ends was is good =
    let e : EndsWith holds after words old new statuses.Good = subst (λ (s : Status). EndsWith holds after words old new s) good ends in
    let p = e.prints before was in
    let both : Some p.0 ≡ Some now = sym p.1 ∙ is in
    let same : p.0 ≡ now = cc in
    (text_of e.answer, demo_for holds words e.answer n asks e.why, sym same ∙ p.2)

prints_demo : (holds after : Holds) (words : List (List ℕ)) (old new : Option (List ℕ)) (status : Status) → EndsWith holds after words old new status → PrintsPart holds after words old new → PrintsDemo words old new status
prints_demo holds after words old new status ends prints n asks before was =
    let p = prints before was in (
      p.0,
      p.1,
      record {
        part = elim p.2 [
          | inl same ↦ inl same
          | inr some ↦ inr (text_of some.0, some.1, demo_for holds words some.0 n asks some.2, some.4)
        ];
        whole = λ good. whole_for holds after words old new status n before p.0 asks ends was p.1 good;
      },
    )

-- such words name no file for a document
no_target : (words : List (List ℕ)) (n : ℕ) (name : List ℕ) → AsksDemo words n → IsTarget words name → ⊥
no_target words n name asks is = no_demo_analysis words is.0 n is.1 asks

leaves_for_demo : (words : List (List ℕ)) (old new : Holds) → OnlyTargetChanges words old new → LeavesFilesForDemo words old new
leaves_for_demo words old new only n asks name = only name (λ is. no_target words n name asks is)

by_answer : (holds after : Holds) (words : List (List ℕ)) (old new : Option (List ℕ)) (status : Status) → Answers holds after words old new status → EndsWellForDemo words status
by_answer holds after words old new status e = subst (λ (s : Status). EndsWellForDemo words s) (sym e.is_its) (answer_ends_demo holds words e.answer e.why)

-- a status that is no answer's is that of a fault
ends_demo : (holds after : Holds) (words : List (List ℕ)) (old new : Option (List ℕ)) (status : Status) → EndsWith holds after words old new status → EndsWellForDemo words status
ends_demo holds after words old new statuses.Device e n asks = inl refl
ends_demo holds after words old new statuses.Memory e n asks = inr (inl refl)
ends_demo holds after words old new statuses.Good e n asks = inr (inr refl)
ends_demo holds after words old new statuses.Alarm e n asks = by_answer holds after words old new statuses.Alarm e n asks
ends_demo holds after words old new statuses.Words e n asks = by_answer holds after words old new statuses.Words e n asks
ends_demo holds after words old new statuses.Program e n asks = by_answer holds after words old new statuses.Program e n asks
ends_demo holds after words old new statuses.Definitions e n asks = by_answer holds after words old new statuses.Definitions e n asks
ends_demo holds after words old new statuses.Limit e n asks = by_answer holds after words old new statuses.Limit e n asks
ends_demo holds after words old new statuses.Document e n asks = by_answer holds after words old new statuses.Document e n asks

pub demos_answered : DemosAreAnswered
demos_answered holds after words old new status ends prints only =
    record { well = ends_demo holds after words old new status ends; prints = prints_demo holds after words old new status ends prints; leaves = leaves_for_demo words holds after only }
