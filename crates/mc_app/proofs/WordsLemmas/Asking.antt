-- What is not asked for.
use Rattle.std.proofs.Common.{◌≡◌, ◌∙◌, ◌∙◌, ℕ, ◌≤◌, List, [], ◌∷◌, map, length, get_or, ap, sym, subst, Option, None, Some, MatchOption, arith, codes}
use Rattle.clap.specs.Words.{App, matches_of}
use Rattle.clap.specs.Walk.{Row}
use Rattle.clap.specs.Faults.{fault_of}
use Rattle.mc_app.specs.declared.words.words.Check.{Check}
use Rattle.mc_app.specs.declared.words.words.Request.{Request}
use Rattle.mc_app.specs.declared.words.words.Request.TheVariants as request
use Rattle.mc_app.specs.declared.words.words.Analyse.{Analyse}
use Rattle.mc_app.specs.declared.words.words.Run.{Run}
use Rattle.mc_app.specs.Words.Commands.{analyse_app, check_app, demo_app, run_app}
use Rattle.mc_app.specs.Words.Words.{Asks, AsksAnalyse, AsksCheck, AsksDemo, AsksRun, IsFor, ReadsSmallNumber}

-- the words begin with this one
abbrev pub BeginsWith : List ℕ → List (List ℕ) → Type 0
BeginsWith name words = (rest : List (List ℕ)) × (words ≡ name ∷ rest)

first_byte : List (List ℕ) → ℕ
first_byte [] = 0
first_byte ([] ∷ words) = 0
first_byte ((b ∷ bytes) ∷ words) = b

-- words begin with one word alone
one_name : (words : List (List ℕ)) (name other : List ℕ) → BeginsWith name words → BeginsWith other words → name ≡ other
one_name words name other c r = let e = c.1 in let d = r.1 in cc

check_or_run : codes "check" ≡ codes "run" → ⊥
check_or_run e = absurd (grind (arith, e))

check_or_analyse : codes "check" ≡ codes "analyse" → ⊥
check_or_analyse e = absurd (grind (arith, e))

run_or_analyse : codes "run" ≡ codes "analyse" → ⊥
run_or_analyse e = absurd (grind (arith, e))

check_or_demo : codes "check" ≡ codes "demo" → ⊥
check_or_demo e = absurd (grind (arith, e))

run_or_demo : codes "run" ≡ codes "demo" → ⊥
run_or_demo e = absurd (grind (arith, e))

analyse_or_demo : codes "analyse" ≡ codes "demo" → ⊥
analyse_or_demo e = absurd (grind (arith, e))

-- a `check` that is none, and words that begin with `check`
pub no_check : (words : List (List ℕ)) → BeginsWith (codes "check") words → ((c : Check) → AsksCheck words c → ⊥) → (a : Request) → Asks words a → ⊥
no_check words begins none (request.Check c) asks = none c asks
no_check words begins none (request.Run c) asks = check_or_run (one_name words _ _ begins asks.named.0)
no_check words begins none (request.Analyse c) asks = check_or_analyse (one_name words _ _ begins asks.named.0)
no_check words begins none (request.Demo n) asks = check_or_demo (one_name words _ _ begins asks.named.0)

-- a `run` that is none, and words that begin with `run`
pub no_run : (words : List (List ℕ)) → BeginsWith (codes "run") words → ((c : Run) → AsksRun words c → ⊥) → (a : Request) → Asks words a → ⊥
no_run words begins none (request.Check c) asks = check_or_run (one_name words _ _ asks.named.0 begins)
no_run words begins none (request.Run c) asks = none c asks
no_run words begins none (request.Analyse c) asks = run_or_analyse (one_name words _ _ begins asks.named.0)
no_run words begins none (request.Demo n) asks = run_or_demo (one_name words _ _ begins asks.named.0)

-- an `analyse` that is none, and words that begin with `analyse`
pub no_analyse : (words : List (List ℕ)) → BeginsWith (codes "analyse") words → ((c : Analyse) → AsksAnalyse words c → ⊥) → (a : Request) → Asks words a → ⊥
no_analyse words begins none (request.Check c) asks = check_or_analyse (one_name words _ _ asks.named.0 begins)
no_analyse words begins none (request.Run c) asks = run_or_analyse (one_name words _ _ asks.named.0 begins)
no_analyse words begins none (request.Analyse c) asks = none c asks
no_analyse words begins none (request.Demo n) asks = analyse_or_demo (one_name words _ _ begins asks.named.0)

-- a `demo` that is none, and words that begin with `demo`
pub no_demo : (words : List (List ℕ)) → BeginsWith (codes "demo") words → ((n : ℕ) → AsksDemo words n → ⊥) → (a : Request) → Asks words a → ⊥
no_demo words begins none (request.Check c) asks = check_or_demo (one_name words _ _ asks.named.0 begins)
no_demo words begins none (request.Run c) asks = run_or_demo (one_name words _ _ asks.named.0 begins)
no_demo words begins none (request.Analyse c) asks = analyse_or_demo (one_name words _ _ asks.named.0 begins)
no_demo words begins none (request.Demo n) asks = none n asks

-- words that begin with none of the commands
pub no_other : (words : List (List ℕ)) → (BeginsWith (codes "check") words → ⊥) → (BeginsWith (codes "run") words → ⊥) → (BeginsWith (codes "analyse") words → ⊥) → (BeginsWith (codes "demo") words → ⊥)
    → (a : Request) → Asks words a → ⊥
no_other words check run analyse demo (request.Check c) asks = check asks.named.0
no_other words check run analyse demo (request.Run c) asks = run asks.named.0
no_other words check run analyse demo (request.Analyse c) asks = analyse asks.named.0
no_other words check run analyse demo (request.Demo n) asks = demo asks.named.0

pub check_at_fault : (words : List (List ℕ)) → (fault_of check_app words ≡ [] → ⊥) → (c : Check) → AsksCheck words c → ⊥
check_at_fault words bad c asks = bad asks.named.1

pub run_at_fault : (words : List (List ℕ)) → (fault_of run_app words ≡ [] → ⊥) → (c : Run) → AsksRun words c → ⊥
run_at_fault words bad c asks = bad asks.named.1

pub analyse_at_fault : (words : List (List ℕ)) → (fault_of analyse_app words ≡ [] → ⊥) → (c : Analyse) → AsksAnalyse words c → ⊥
analyse_at_fault words bad c asks = bad asks.named.1

pub demo_at_fault : (words : List (List ℕ)) → (fault_of demo_app words ≡ [] → ⊥) → (n : ℕ) → AsksDemo words n → ⊥
demo_at_fault words bad n asks = bad asks.named.1

-- a `demo` is asked for where its number is read
pub demo_asked : (words : List (List ℕ)) (r : Option ℕ) → IsFor (codes "demo") demo_app words
    → MatchOption r ((n : ℕ) → ReadsSmallNumber demo_app words (codes "number") n → ⊥) (ReadsSmallNumber demo_app words (codes "number"))
    → MatchOption r ((n : ℕ) → AsksDemo words n → ⊥) (AsksDemo words)
demo_asked words None named none = λ n asks. none n asks.number
demo_asked words (Some n) named reads = record { named = named; number = reads }

-- words of which this is the first one
pub first_word : {A : Type 0} (text : A → List ℕ) (words : List A) (x : A) (name : List ℕ) → 1 ≤ length words → x ≡ get_or words 0 x → text x ≡ name → BeginsWith name (map text words)
first_word text [] x name some here e = absurd (omega arith)
first_word text (y ∷ ys) x name some here e = (map text ys, ap (λ n. n ∷ map text ys) (ap text (sym here) ∙ e))

pub first_of_words : {A : Type 0} (text : A → List ℕ) (words : List A) (x : A) (name : List ℕ) → x ≡ get_or words 0 x → BeginsWith name (map text words) → text x ≡ name
first_of_words text [] x name here b = let e = b.1 in cc
first_of_words text (y ∷ ys) x name here b = let e = b.1 in ap text here ∙ cc

-- where a command has matches, it finds no fault in the words, and these are their rows
pub read_by : {M : Type 0} (app other : App) (words : List (List ℕ)) (rows : M → List Row) (r : Option M) (found : M) → app ≡ other → r ≡ Some found
    → MatchOption r (fault_of app words ≡ [] → ⊥) (λ m. (fault_of app words ≡ []) × (rows m ≡ matches_of app words))
    → (fault_of other words ≡ []) × (rows found ≡ matches_of other words)
read_by {M} app other words rows r found same is h =
    subst (λ (a : App). (fault_of a words ≡ []) × (rows found ≡ matches_of a words)) same
    (subst (λ (o : Option M). MatchOption o (fault_of app words ≡ [] → ⊥) (λ m. (fault_of app words ≡ []) × (rows m ≡ matches_of app words))) is h)
