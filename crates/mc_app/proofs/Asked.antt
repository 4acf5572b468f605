-- What words ask for names the same files, however it is written down.
use Rattle.std.proofs.Common.{◌≡◌, ◌∙◌, ◌∷◌, ℕ, Bool, true, false, List, Option, None, Some, codes, refl, sym, subst}
use Rattle.clap.specs.Words.{App}
use Rattle.mc_app.specs.declared.words.words.Analyse.{Analyse}
use Rattle.mc_app.specs.declared.words.words.Check.{Check}
use Rattle.mc_app.specs.declared.words.words.Request.{Request}
use Rattle.mc_app.specs.declared.words.words.Request.TheVariants as request
use Rattle.mc_app.specs.declared.words.words.Run.{Run}
use Rattle.mc_app.specs.Words.Commands.{analyse_app, check_app}
use Rattle.mc_app.specs.Words.Words.{Asks, AsksAnalyse, AsksCheck, AsksDemo, AsksRun, Reads, ReadsFlag, flag_text}
use Rattle.mc_outside.specs.Outside.{WhereTold}
use Rattle.mc_find.specs.declared.analysis.analysis.Analysis.TheVariants as analysis
use Rattle.mc_find.specs.declared.analysis.analysis.Findings.{Findings}
use Rattle.mc_load.specs.Inputs.Inputs.{Holds}
use Rattle.mc_load.specs.declared.inputs.reading.Sources.{Sources}
use Rattle.mc_load.specs.declared.inputs.refusal.Refusal.TheVariants as refusals
use Rattle.mc_judge.specs.declared.judge.verdict.Verdict.TheVariants.{Safe, Alarms, Refused as Mistaken}
use Rattle.mc_app.specs.declared.analysing.Analysed.TheVariants as results
use Rattle.mc_app.specs.declared.answer.Answer.{Answer}
use Rattle.mc_app.specs.declared.answer.Answer.TheVariants.{Words, Refused, Checked, Ran, Analysed, Demo}
use Rattle.mc_app.specs.declared.answer.Status.TheVariants as statuses
use Rattle.mc_app.specs.declared.checking.Checked.TheVariants.{TooLong, Judged}
use Rattle.mc_app.specs.Answers.{AsksForSafety, HasTarget, IsAsked, IsSafeForWords, IsWhyWords, sources_of, status_of, target_of}
use Rattle.mc_app.specs.Checks.{IsSafe, IsSafeWhereTold}

pub one_word : (app : App) (words : List (List ℕ)) (id v w : List ℕ) → Reads app words id v → Reads app words id w → v ≡ w
one_word app words id v w h k = let e : Some v ≡ Some w = sym h ∙ k in cc

-- whether a flag is there
one_flag_text : (is also : Bool) → flag_text is ≡ flag_text also → is ≡ also
one_flag_text true true e = refl
one_flag_text true false e = absurd cc
one_flag_text false true e = absurd cc
one_flag_text false false e = refl

pub one_flag : (app : App) (words : List (List ℕ)) (id : List ℕ) (is also : Bool) → ReadsFlag app words id is → ReadsFlag app words id also → is ≡ also
one_flag app words id is also h k = let e : Some (flag_text is) ≡ Some (flag_text also) = sym h ∙ k in one_flag_text is also cc

abbrev SafeFor : Holds → (program definitions start : List ℕ) → Type 0
SafeFor holds p d s = WhereTold (holds p) (λ text. WhereTold (holds d) (λ definitions. IsSafe s text definitions))

safe_by : (holds : Holds) (s t : Sources) → s.program.now ≡ t.program.now → s.definitions.now ≡ t.definitions.now → s.start.now ≡ t.start.now → IsSafeWhereTold holds s → IsSafeWhereTold holds t
safe_by holds s t program definitions start safe =
    let first = subst (λ (p : List ℕ). SafeFor holds p s.definitions.now s.start.now) program safe in
    let second = subst (λ (x : List ℕ). SafeFor holds t.program.now x s.start.now) definitions first in
    subst (λ (y : List ℕ). SafeFor holds t.program.now t.definitions.now y) start second

-- the first word names one command
check_or_run : (rest other : List (List ℕ)) → codes "check" ∷ rest ≡ codes "run" ∷ other → ⊥
check_or_run rest other e = cc

check_or_analyse : (rest other : List (List ℕ)) → codes "check" ∷ rest ≡ codes "analyse" ∷ other → ⊥
check_or_analyse rest other e = cc

run_or_analyse : (rest other : List (List ℕ)) → codes "run" ∷ rest ≡ codes "analyse" ∷ other → ⊥
run_or_analyse rest other e = cc

check_or_demo : (rest other : List (List ℕ)) → codes "check" ∷ rest ≡ codes "demo" ∷ other → ⊥
check_or_demo rest other e = cc

run_or_demo : (rest other : List (List ℕ)) → codes "run" ∷ rest ≡ codes "demo" ∷ other → ⊥
run_or_demo rest other e = cc

analyse_or_demo : (rest other : List (List ℕ)) → codes "analyse" ∷ rest ≡ codes "demo" ∷ other → ⊥
analyse_or_demo rest other e = cc

pub no_run : (words : List (List ℕ)) (c : Check) (r : Run) → AsksCheck words c → AsksRun words r → ⊥
no_run words c r check run = check_or_run check.named.0.0 run.named.0.0 (sym check.named.0.1 ∙ run.named.0.1)

pub no_analysis : (words : List (List ℕ)) (c : Check) (a : Analyse) → AsksCheck words c → AsksAnalyse words a → ⊥
no_analysis words c a check analyse = check_or_analyse check.named.0.0 analyse.named.0.0 (sym check.named.0.1 ∙ analyse.named.0.1)

pub no_other : (words : List (List ℕ)) (r : Run) (a : Analyse) → AsksRun words r → AsksAnalyse words a → ⊥
no_other words r a run analyse = run_or_analyse run.named.0.0 analyse.named.0.0 (sym run.named.0.1 ∙ analyse.named.0.1)

pub no_demo_check : (words : List (List ℕ)) (c : Check) (n : ℕ) → AsksCheck words c → AsksDemo words n → ⊥
no_demo_check words c n check demo = check_or_demo check.named.0.0 demo.named.0.0 (sym check.named.0.1 ∙ demo.named.0.1)

pub no_demo_run : (words : List (List ℕ)) (r : Run) (n : ℕ) → AsksRun words r → AsksDemo words n → ⊥
no_demo_run words r n run demo = run_or_demo run.named.0.0 demo.named.0.0 (sym run.named.0.1 ∙ demo.named.0.1)

pub no_demo_analysis : (words : List (List ℕ)) (a : Analyse) (n : ℕ) → AsksAnalyse words a → AsksDemo words n → ⊥
no_demo_analysis words a n analyse demo = analyse_or_demo analyse.named.0.0 demo.named.0.0 (sym analyse.named.0.1 ∙ demo.named.0.1)

-- what is safe for one request is safe for each that the same words ask for
pub safe_for_words : (holds : Holds) (words : List (List ℕ)) (r : Request) → Asks words r → (AsksForSafety r → IsSafeWhereTold holds (sources_of r)) → IsSafeForWords holds words
safe_for_words holds words (request.Check c) asks safe (request.Check d) too wants =
    safe_by holds (sources_of (request.Check c)) (sources_of (request.Check d)) (one_word check_app words _ c.program.now d.program.now asks.program too.program)
    (one_word check_app words _ c.definitions.now d.definitions.now asks.definitions too.definitions) (one_word check_app words _ c.start.now d.start.now asks.start too.start) (safe tt)
safe_for_words holds words (request.Check c) asks safe (request.Run r) too wants = absurd wants
safe_for_words holds words (request.Check c) asks safe (request.Analyse a) too wants = absurd (no_analysis words c a asks too)
safe_for_words holds words (request.Run r) asks safe (request.Check c) too wants = absurd (no_run words c r too asks)
safe_for_words holds words (request.Run r) asks safe (request.Run q) too wants = absurd wants
safe_for_words holds words (request.Run r) asks safe (request.Analyse a) too wants = absurd (no_other words r a asks too)
safe_for_words holds words (request.Demo n) asks safe (request.Check c) too wants = absurd (no_demo_check words c n too asks)
safe_for_words holds words (request.Demo n) asks safe (request.Run r) too wants = absurd wants
safe_for_words holds words (request.Demo n) asks safe (request.Analyse a) too wants = absurd (no_demo_analysis words a n too asks)
safe_for_words holds words (request.Demo n) asks safe (request.Demo m) too wants = absurd wants
safe_for_words holds words (request.Check c) asks safe (request.Demo n) too wants = absurd wants
safe_for_words holds words (request.Run r) asks safe (request.Demo n) too wants = absurd wants
safe_for_words holds words (request.Analyse a) asks safe (request.Demo n) too wants = absurd wants
safe_for_words holds words (request.Analyse a) asks safe (request.Check c) too wants = absurd (no_analysis words c a too asks)
safe_for_words holds words (request.Analyse a) asks safe (request.Run r) too wants = absurd wants
safe_for_words holds words (request.Analyse a) asks safe (request.Analyse b) too wants =
    safe_by holds (sources_of (request.Analyse a)) (sources_of (request.Analyse b)) (one_word analyse_app words _ a.program.now b.program.now asks.program too.program)
    (one_word analyse_app words _ a.definitions.now b.definitions.now asks.definitions too.definitions) (one_word analyse_app words _ a.start.now b.start.now asks.start too.start) (safe tt)

-- the document goes where the words say
pub has_target : (words : List (List ℕ)) (o : Option Request) → IsAsked words o → HasTarget words (target_of o)
has_target words None asked = λ name. (λ e. cc, λ t. absurd (asked (request.Analyse t.0) t.1))
has_target words (Some (request.Check c)) asked = λ name. (λ e. cc, λ t. absurd (no_analysis words c t.0 asked t.1))
has_target words (Some (request.Run r)) asked = λ name. (λ e. cc, λ t. absurd (no_other words r t.0 asked t.1))
has_target words (Some (request.Demo n)) asked = λ name. (λ e. cc, λ t. absurd (no_demo_analysis words t.0 n t.1 asked))
has_target words (Some (request.Analyse a)) asked = λ name. (λ e. (a, asked, e), λ t. sym asked.document ∙ (t.1.document ∙ t.2))

-- where the words ask for a check, all is well only by the verdict that it is
pub good_check : (holds : Holds) (words : List (List ℕ)) (a : Answer) (c : Check) → status_of a ≡ statuses.Good → IsWhyWords holds words a → AsksCheck words c → a ≡ Checked (Judged Safe)
good_check holds words Words c e why asks = cc
good_check holds words (Refused (refusals.Program cause)) c e why asks = cc
good_check holds words (Refused (refusals.Definitions cause)) c e why asks = cc
good_check holds words (Refused (refusals.Misfit fault)) c e why asks = cc
good_check holds words (Checked TooLong) c e why asks = cc
good_check holds words (Checked (Judged Safe)) c e why asks = refl
good_check holds words (Checked (Judged (Alarms count))) c e why asks = cc
good_check holds words (Checked (Judged (Mistaken refusal))) c e why asks = cc
good_check holds words (Ran found) c e why asks = absurd (no_run words c why.0 asks why.1)
good_check holds words (Analysed found) c e why asks = absurd (no_analysis words c why.0 asks why.1)
good_check holds words (Demo text) c e why asks = absurd (no_demo_check words c why.0 asks why.1)

-- where they ask for an analysis, only by a certificate that was found
pub good_analysis : (holds : Holds) (words : List (List ℕ)) (x : Answer) (a : Analyse) → status_of x ≡ statuses.Good → IsWhyWords holds words x → AsksAnalyse words a → (f : Findings) × (x ≡ Analysed (results.Found (analysis.Safe f)))
good_analysis holds words Words a e why asks = cc
good_analysis holds words (Refused (refusals.Program cause)) a e why asks = cc
good_analysis holds words (Refused (refusals.Definitions cause)) a e why asks = cc
good_analysis holds words (Refused (refusals.Misfit fault)) a e why asks = cc
good_analysis holds words (Checked found) a e why asks = absurd (no_analysis words why.0 a why.1 asks)
good_analysis holds words (Ran found) a e why asks = absurd (no_other words why.0 a why.1 asks)
good_analysis holds words (Demo text) a e why asks = absurd (no_demo_analysis words a why.0 asks why.1)
good_analysis holds words (Analysed results.TooLong) a e why asks = cc
good_analysis holds words (Analysed (results.Found (analysis.Safe f))) a e why asks = (f, refl)
good_analysis holds words (Analysed (results.Found (analysis.Alarms f count))) a e why asks = cc
good_analysis holds words (Analysed (results.Tried f count text)) a e why asks = cc
good_analysis holds words (Analysed (results.Found (analysis.Paths document))) a e why asks = cc
good_analysis holds words (Analysed (results.Found analysis.Unknown)) a e why asks = cc

-- ---- what is asked for is answered

pub check_is_safe : (holds : Holds) (words : List (List ℕ)) (r : Request) (c : Check) (a : Answer) → r ≡ request.Check c → Asks words r → (AsksCheck words c → IsWhyWords holds words a)
    → (a ≡ Checked (Judged Safe) → IsSafeWhereTold holds (sources_of (request.Check c))) → status_of a ≡ statuses.Good → AsksForSafety r → IsSafeWhereTold holds (sources_of r)
check_is_safe holds words r c a same asked why safe good wants =
    let asks : AsksCheck words c = subst (λ (x : Request). Asks words x) same asked in
    subst (λ (x : Request). IsSafeWhereTold holds (sources_of x)) (sym same) (safe (good_check holds words a c good (why asks) asks))

pub analysis_is_safe : (holds : Holds) (words : List (List ℕ)) (r : Request) (c : Analyse) (a : Answer) → r ≡ request.Analyse c → Asks words r → (AsksAnalyse words c → IsWhyWords holds words a)
    → ((f : Findings) → a ≡ Analysed (results.Found (analysis.Safe f)) → IsSafeWhereTold holds (sources_of (request.Analyse c))) → status_of a ≡ statuses.Good → AsksForSafety r
    → IsSafeWhereTold holds (sources_of r)
analysis_is_safe holds words r c a same asked why safe good wants =
    let asks : AsksAnalyse words c = subst (λ (x : Request). Asks words x) same asked in
    let found = good_analysis holds words a c good (why asks) asks in
    subst (λ (x : Request). IsSafeWhereTold holds (sources_of x)) (sym same) (safe found.0 found.1)
