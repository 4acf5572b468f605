-- What words ask for.
use Rattle.std.specs.Prelude.{◌≡◌, ℕ, Bool, true, false, List, [], ◌∷◌, Ok, Option, Some, codes, option_map}
use Rattle.std.specs.Str.Parse.{ParsesUnsigned}
use Rattle.clap.specs.Words.{App, first_of, matches_of}
use Rattle.clap.specs.Faults.{fault_of}
use Rattle.clap.specs.Walk.{one_of}
use Rattle.mc_app.specs.declared.words.words.Request.{Request}
use Rattle.mc_app.specs.declared.words.words.Request.TheVariants as request
use Rattle.mc_app.specs.declared.words.words.Check.{Check}
use Rattle.mc_app.specs.declared.words.words.Run.{Run}
use Rattle.mc_app.specs.declared.words.words.Analyse.{Analyse}
use Rattle.mc_app.specs.Words.Commands.{analyse_app, check_app, demo_app, run_app}

-- the words begin with this one, and the command of that name finds no fault in them
abbrev pub IsFor : List ℕ → App → List (List ℕ) → Type 0
IsFor name app words = ((rest : List (List ℕ)) × (words ≡ name ∷ rest)) × (fault_of app words ≡ [])

-- the word that a command reads at one of its names
abbrev pub Reads : App → List (List ℕ) → List ℕ → List ℕ → Type 0
Reads app words id word = first_of id (matches_of app words) ≡ Some word

-- the word that a command reads at a name which may be left out, if there is one
abbrev pub ReadsPerhaps : App → List (List ℕ) → List ℕ → Option (List ℕ) → Type 0
ReadsPerhaps app words id word = first_of id (matches_of app words) ≡ word

-- the number of so many bits that a command reads at one of its names
abbrev pub ReadsUnsigned : (bits : ℕ) → App → List (List ℕ) → List ℕ → ℕ → Type 0
ReadsUnsigned bits app words id n =
    (number : List ℕ) × (one_of id (matches_of app words) ≡ Some number) × ParsesUnsigned {E = Unit {0}} bits 10 number (Ok n)

-- the number that a command reads at one of its names
abbrev pub ReadsNumber : App → List (List ℕ) → List ℕ → ℕ → Type 0
ReadsNumber = ReadsUnsigned 64

-- the number below 2^32 that a command reads at one of its names
abbrev pub ReadsSmallNumber : App → List (List ℕ) → List ℕ → ℕ → Type 0
ReadsSmallNumber = ReadsUnsigned 32

-- what a command reads of a flag
abbrev pub flag_text : Bool → List ℕ
flag_text true = codes "true"
flag_text false = codes "false"

-- whether the words have the flag that a command reads at one of its names
abbrev pub ReadsFlag : App → List (List ℕ) → List ℕ → Bool → Type 0
ReadsFlag app words id is = one_of id (matches_of app words) ≡ Some (flag_text is)

-- the words are a `check` with these files and this entry
pub record AsksCheck (words : List (List ℕ)) (c : Check) : Type 0 where
  pub named : IsFor (codes "check") check_app words
  pub program : Reads check_app words (codes "program") c.program.now
  pub definitions : Reads check_app words (codes "definitions") c.definitions.now
  pub document : Reads check_app words (codes "document") c.document.now
  pub start : Reads check_app words (codes "entry") c.start.now

-- the words are a `run` with these files, this entry and so much fuel
pub record AsksRun (words : List (List ℕ)) (c : Run) : Type 0 where
  pub named : IsFor (codes "run") run_app words
  pub program : Reads run_app words (codes "program") c.program.now
  pub definitions : Reads run_app words (codes "definitions") c.definitions.now
  pub script : Reads run_app words (codes "script") c.script.now
  pub start : Reads run_app words (codes "entry") c.start.now
  pub fuel : ReadsNumber run_app words (codes "fuel") c.fuel

-- the words are an `analyse` with these files, this entry, these limits, with `--merge` or without, with so many runs at most, and
-- with this document, if there is one
pub record AsksAnalyse (words : List (List ℕ)) (c : Analyse) : Type 0 where
  pub named : IsFor (codes "analyse") analyse_app words
  pub program : Reads analyse_app words (codes "program") c.program.now
  pub definitions : Reads analyse_app words (codes "definitions") c.definitions.now
  pub start : Reads analyse_app words (codes "entry") c.start.now
  pub rounds : ReadsNumber analyse_app words (codes "rounds") c.rounds
  pub disjuncts : ReadsNumber analyse_app words (codes "disjuncts") c.disjuncts
  pub merge : ReadsFlag analyse_app words (codes "merge") c.merge
  pub runs : ReadsNumber analyse_app words (codes "runs") c.runs
  pub document : ReadsPerhaps analyse_app words (codes "document") (option_map (λ s. s.now) c.document)

-- the words are a `demo` of this number
pub record AsksDemo (words : List (List ℕ)) (n : ℕ) : Type 0 where
  pub named : IsFor (codes "demo") demo_app words
  pub number : ReadsSmallNumber demo_app words (codes "number") n

-- the words ask for this
abbrev pub Asks : List (List ℕ) → Request → Type 0
Asks words (request.Check c) = AsksCheck words c
Asks words (request.Run c) = AsksRun words c
Asks words (request.Analyse c) = AsksAnalyse words c
Asks words (request.Demo n) = AsksDemo words n
