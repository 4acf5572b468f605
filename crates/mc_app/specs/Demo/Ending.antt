-- How a call ends that asks for programs that are made.
use Rattle.std.specs.Prelude.{◌≡◌, ◌++◌, ◌⊎◌, ℕ, List, Option, Some, take}
use Rattle.mc_load.specs.Inputs.Inputs.{Holds}
use Rattle.mc_outside.specs.Outside.{Stays, WhereTold}
use Rattle.mc_app.specs.Answers.{EndsWith, OnlyTargetChanges, PrintsPart}
use Rattle.mc_app.specs.Demo.Demo.{IsDemo}
use Rattle.mc_app.specs.Words.Words.{AsksDemo}
use Rattle.mc_app.specs.declared.answer.Status.{Status}
use Rattle.mc_app.specs.declared.answer.Status.TheVariants.{Good, Device, Memory}

-- it ends well, unless the device failed or memory ran out
abbrev pub EndsWellForDemo : List (List ℕ) → Status → Type 0
EndsWellForDemo words status = (n : ℕ) → AsksDemo words n → (status ≡ Device) ⊎ ((status ≡ Memory) ⊎ (status ≡ Good))

-- this is a text of the programs that the words ask for
pub record IsDemoFor (words : List (List ℕ)) (text : List ℕ) : Type 0 where
  pub number : ℕ
  pub asks : AsksDemo words number
  pub is_text : IsDemo number text

-- nothing was added where this is known, or the front of such a text: all of it where the call ended well
pub record AddsDemo (words : List (List ℕ)) (status : Status) (before now : List ℕ) : Type 0 where
  pub part : (now ≡ before) ⊎ ((text : List ℕ) × (count : ℕ) × IsDemoFor words text × (now ≡ before ++ take count text))
  pub whole : status ≡ Good → (text : List ℕ) × IsDemoFor words text × (now ≡ before ++ text)

-- what is printed where the words ask for programs that are made
abbrev pub PrintsDemo : List (List ℕ) → (old new : Option (List ℕ)) → Status → Type 0
PrintsDemo words old new status =
    (n : ℕ) → AsksDemo words n → WhereTold old (λ before. (now : List ℕ) × (new ≡ Some now) × AddsDemo words status before now)

-- every file is as it was
abbrev pub LeavesFilesForDemo : List (List ℕ) → (old new : Holds) → Type 0
LeavesFilesForDemo words old new = (n : ℕ) → AsksDemo words n → Stays old new

-- how a call ends, what it prints and what it leaves, where it has the clauses of the top call on these
pub record DemoEnds (holds after : Holds) (words : List (List ℕ)) (old new : Option (List ℕ)) (status : Status) : Type 0 where
  pub well : EndsWellForDemo words status
  pub prints : PrintsDemo words old new status
  pub leaves : LeavesFilesForDemo words holds after

-- a call that ends with an answer that has its cause, prints the front of it, and changes no file but the one that its words name,
-- ends so where the words ask for programs that are made
abbrev pub DemosAreAnswered : Type 0
DemosAreAnswered =
    (holds after : Holds) (words : List (List ℕ)) (old new : Option (List ℕ)) (status : Status)
    → EndsWith holds after words old new status → PrintsPart holds after words old new → OnlyTargetChanges words holds after
    → DemoEnds holds after words old new status
