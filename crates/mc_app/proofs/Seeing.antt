-- Programs that are made, and what is seen of them.
use Rattle.std.proofs.Common.{◌≡◌, ◌∙◌, ◌++◌, ◌+◌, ℕ, zero, suc, false, List, [], ◌∷◌, inl, inr, refl, sym, ap, subst, length, arith}
use Rattle.std.specs.Prelude.{IfErr, Result, Ok, Err}
use Rattle.std.proofs.lemmas.List.{append-nil, append_assoc}
use Rattle.mc_judge.specs.Judge.Verdicts.{IsCertificate}
use Rattle.mc_judge.specs.declared.judge.verdict.Verdict.{Verdict}
use Rattle.mc_judge.specs.declared.judge.verdict.Verdict.TheVariants as verdict
use Rattle.mc_find.specs.Analysis.Findings.{HasAlarms, IsAnalysis, IsProved}
use Rattle.mc_find.specs.declared.analysis.analysis.Analysis.{Analysis}
use Rattle.mc_find.specs.declared.analysis.analysis.Analysis.TheVariants as analysis
use Rattle.mc_find.specs.declared.analysis.analysis.Findings.{Findings}
use Rattle.mc_flow.specs.declared.defs.rules.Def.{Def}
use Rattle.mc_flow.specs.declared.graph.Flow.{Flow}
use Rattle.mc_flow.specs.Valid.{IsValid}
use Rattle.mc_joins.specs.Chains.ReadLaws.{LoresAreThere, ShortChainsAreLegal}
use Rattle.mc_gen.specs.Programs.{kinds_of, next_program}
use Rattle.mc_gen.specs.Texts.{program_text}
use Rattle.mc_gen.specs.declared.kinds.BlockKind.{BlockKind}
use Rattle.mc_load.specs.Inputs.Inputs.{Holds}
use Rattle.mc_outside.specs.declared.outside.FileFault.{FileFault}
use Rattle.mc_outside.specs.declared.outside.FileFault.TheVariants.{Failed, NoMemory}
use Rattle.mc_app.specs.Answers.{IsRefusedFor, IsWhyWords, status_of}
use Rattle.mc_app.specs.Demo.Demo.{AreSeen, line_text, lines_text}
use Rattle.mc_app.specs.Demo.Ending.{EndsWellForDemo}
use Rattle.mc_app.specs.Demo.Seen.{IsSeen, IsSeenOf}
use Rattle.mc_app.specs.Documents.{IsVerdictOn}
use Rattle.mc_app.specs.Faults.{fault_status}
use Rattle.mc_app.specs.Words.Words.{Asks, AsksDemo}
use Rattle.mc_app.specs.declared.answer.Answer.{Answer}
use Rattle.mc_app.specs.declared.answer.Answer.TheVariants.{Words, Refused, Checked, Ran, Analysed, Demo}
use Rattle.mc_app.specs.declared.answer.Status.{Status}
use Rattle.mc_app.specs.declared.demo.seen.Seen.{Seen}
use Rattle.mc_app.specs.declared.demo.seen.Seen.TheVariants.{Judged}
use Rattle.mc_app.specs.declared.words.words.Request.{Request}
use Rattle.mc_app.specs.declared.words.words.Request.TheVariants as request
use Rattle.mc_load.specs.declared.inputs.refusal.Refusal.{Refusal}
use Rattle.mc_app.proofs.Chains.{alarms_said}
use Rattle.mc_app.proofs.Asked.{no_demo_analysis, no_demo_check, no_demo_run}

-- ---- verdicts on the documents of an analysis

module _ (flow : Flow) (defs : List Def) (f : Findings) (v : Verdict) (said : IsVerdictOn flow defs f.document.items v) where
  pub safe_is_seen : IsProved flow defs false f → IsSeenOf flow defs (Judged v)
  safe_is_seen proved =
      let certificate : IsCertificate flow defs f.document.items = record { lines = proved.lines; spelled = proved.spelled; holds = proved.valid } in
      let safe : v ≡ verdict.Safe = said.0.safe.1 certificate in
      subst (λ (x : Verdict). IsSeenOf flow defs (Judged x)) (sym safe) (f, proved, subst (λ (x : Verdict). IsVerdictOn flow defs f.document.items x) safe said)

  pub alarms_are_seen : LoresAreThere → ShortChainsAreLegal → IsValid flow defs → (count : ℕ) → HasAlarms flow defs false f count → IsSeenOf flow defs (Judged v)
  alarms_are_seen there legal valid count found =
      let known = there flow defs valid in
      let alarms : v ≡ verdict.Alarms count = alarms_said flow defs known.0.lines.know known.1.knows legal false f count v found said.0 in
      subst (λ (x : Verdict). IsSeenOf flow defs (Judged x)) (sym alarms) (f, found, subst (λ (x : Verdict). IsVerdictOn flow defs f.document.items x) alarms said)

pub at_safe : (flow : Flow) (defs : List Def) (found : Analysis) (f : Findings) → found ≡ analysis.Safe f → IsAnalysis flow defs false found → IsProved flow defs false f
at_safe flow defs found f e is = subst (λ (a : Analysis). IsAnalysis flow defs false a) e is

pub at_alarms : (flow : Flow) (defs : List Def) (found : Analysis) (f : Findings) (count : ℕ) → found ≡ analysis.Alarms f count → IsAnalysis flow defs false found → HasAlarms flow defs false f count
at_alarms flow defs found f count e is = subst (λ (a : Analysis). IsAnalysis flow defs false a) e is

-- what is known of an error alone
pub at_long : {X Y : Type 0} (r : Result X Y) (y : Y) (P : Type 0) → r ≡ Err y → IfErr r (λ e. P) → P
at_long (Ok x) y P e m = cc
at_long (Err x) y P e m = m

-- ---- programs in their order

-- what the program after so many comes of
abbrev pub nth : (before x : ℕ) → ℕ
nth zero x = x
nth (suc before) x = nth before (next_program x)

pub nth_more : (before x : ℕ) → nth (suc before) x ≡ next_program (nth before x)
nth_more zero x = refl
nth_more (suc before) x = nth_more before (next_program x)

-- one program more is seen
pub seen_more : (x : ℕ) (before : List Seen) (seen : Seen) → AreSeen x before → IsSeen (program_text (kinds_of (nth (length before) x))) seen → AreSeen x (before ++ seen ∷ [])
seen_more x [] seen are is = (is, tt)
seen_more x (s ∷ before) seen are is = (are.0, seen_more (next_program x) before seen are.1 is)

-- and has its line
pub lines_more : (number x : ℕ) (before : List Seen) (seen : Seen)
    → lines_text number x (before ++ seen ∷ []) ≡ lines_text number x before ++ line_text (number + length before) (kinds_of (nth (length before) x)) seen
unfolding lines_text
lines_more number x [] seen =
    let same : number + 0 ≡ number = omega arith in
    append-nil (line_text number (kinds_of x) seen) ∙ ap (λ n. line_text n (kinds_of x) seen) (sym same)
lines_more number x (s ∷ before) seen =
    let first = line_text number (kinds_of x) s in
    let others = lines_text (suc number) (next_program x) before in
    let last = λ (n : ℕ). line_text n (kinds_of (nth (length before) (next_program x))) seen in
    let same : suc number + length before ≡ number + suc (length before) = omega arith in
    ap (λ ls. first ++ ls) (lines_more (suc number) (next_program x) before seen ∙ ap (λ n. others ++ last n) same)
    ∙ sym (append_assoc first others (last (number + suc (length before))))

pub one_longer : (before : List Seen) (seen : Seen) → length (before ++ seen ∷ []) ≡ suc (length before)
one_longer [] seen = refl
one_longer (s ∷ before) seen = ap suc (one_longer before seen)

-- ---- the lines so far

empty_lines : (number x : ℕ) → lines_text number x [] ≡ []
unfolding lines_text
empty_lines number x = refl

pub no_lines : (number x : ℕ) (all : List Seen) → all ≡ [] → [] ≡ lines_text number x all
no_lines number x all e = sym (ap (λ l. lines_text number x l) e ∙ empty_lines number x)

pub none_seen : (x : ℕ) (all : List Seen) → all ≡ [] → AreSeen x all
none_seen x all e = subst (λ (l : List Seen). AreSeen x l) (sym e) tt

module _ (number i x : ℕ) (before : List Seen) (at : x ≡ nth (length before) number) where
  -- a program more is seen
  pub all_seen : (after : List Seen) (seen : Seen) (text : List ℕ) → after ≡ before ++ seen ∷ [] → text ≡ program_text (kinds_of x) → AreSeen number before → IsSeen text seen → AreSeen number after
  all_seen after seen text e f are is =
      let there = subst (λ (y : ℕ). IsSeen (program_text (kinds_of y)) seen) at (subst (λ (t : List ℕ). IsSeen t seen) f is) in
      subst (λ (all : List Seen). AreSeen number all) (sym e) (seen_more number before seen are there)

  -- its line is printed
  pub all_printed : (after : List Seen) (seen : Seen) (kinds : List BlockKind) (old new : List ℕ) → length before ≡ i → after ≡ before ++ seen ∷ [] → kinds ≡ kinds_of x
      → old ≡ lines_text 1 number before → new ≡ old ++ line_text (i + 1) kinds seen → new ≡ lines_text 1 number after
  all_printed after seen kinds old new counted e f g h =
      let place : i + 1 ≡ 1 + length before = omega (arith, counted) in
      let numbered = ap (λ n. line_text n kinds seen) place in
      let named = ap (λ ks. line_text (1 + length before) ks seen) (f ∙ ap (λ y. kinds_of y) at) in
      let whole = ap (λ ls. ls ++ line_text (i + 1) kinds seen) g ∙ ap (λ l. lines_text 1 number before ++ l) (numbered ∙ named) in
      h ∙ whole ∙ sym (lines_more 1 number before seen) ∙ ap (λ all. lines_text 1 number all) (sym e)

  -- and the next program comes after it
  pub next_is : (after : List Seen) (seen : Seen) (next : ℕ) → after ≡ before ++ seen ∷ [] → next ≡ next_program x → next ≡ nth (length after) number
  next_is after seen next e f =
      let longer : length after ≡ suc (length before) = ap length e ∙ one_longer before seen in
      f ∙ ap (λ y. next_program y) at ∙ sym (nth_more (length before) number) ∙ ap (λ n. nth n number) (sym longer)

-- ---- how calls end

pub fault_ends_demo : (words : List (List ℕ)) (fault : FileFault) (s : Status) → s ≡ fault_status fault → EndsWellForDemo words s
fault_ends_demo words Failed s e n asks = inl e
fault_ends_demo words NoMemory s e n asks = inr (inl e)

pub not_refused : (holds : Holds) (words : List (List ℕ)) (r : Request) (refusal : Refusal) (n : ℕ) → Asks words r → IsRefusedFor holds r refusal → AsksDemo words n → ⊥
not_refused holds words (request.Check c) refusal n too refused asks = no_demo_check words c n too asks
not_refused holds words (request.Run r) refusal n too refused asks = no_demo_run words r n too asks
not_refused holds words (request.Analyse a) refusal n too refused asks = no_demo_analysis words a n too asks
not_refused holds words (request.Demo m) refusal n too refused asks = refused

pub answer_ends_demo : (holds : Holds) (words : List (List ℕ)) (a : Answer) → IsWhyWords holds words a → EndsWellForDemo words (status_of a)
answer_ends_demo holds words Words why n asks = absurd (why (request.Demo n) asks)
answer_ends_demo holds words (Refused refusal) why n asks = absurd (not_refused holds words why.0 refusal n why.1 why.2 asks)
answer_ends_demo holds words (Checked found) why n asks = absurd (no_demo_check words why.0 n why.1 asks)
answer_ends_demo holds words (Ran found) why n asks = absurd (no_demo_run words why.0 n why.1 asks)
answer_ends_demo holds words (Analysed found) why n asks = absurd (no_demo_analysis words why.0 n why.1 asks)
answer_ends_demo holds words (Demo text) why n asks = inr (inr refl)
