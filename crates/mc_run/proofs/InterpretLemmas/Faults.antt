-- The fault of a run with answers of malloc is what the program comes to with a script of these answers.
use Rattle.std.proofs.Common.{◌≡◌, ◌≤◌, ◌++◌, ℕ, zero, suc, List, [], ◌∷◌, Option, Some, None, map, option_map, refl, sym, ap, ap₂, ◌∙◌, subst, arith, inl, inr}
use Rattle.std.specs.Prelude.{codes}
use Rattle.std.proofs.lemmas.Option.{same_Some}
use Rattle.mc_base.specs.declared.plain.FaultKind.{FaultKind}
use Rattle.mc_base.specs.declared.text.place.Place.{Place}
use Rattle.mc_flow.specs.Heap.Choices.{Choice, malloc, shape}
use Rattle.mc_flow.specs.Runs.{Outcome, next, last, ended, stopped, fault, Reaches}
use Rattle.mc_flow.specs.declared.defs.rules.Def.{Def}
use Rattle.mc_flow.specs.declared.defs.shapes.StructInfo.{StructInfo}
use Rattle.mc_c_syntax.specs.Ast.Trees.{FunctionTree, UnitTree}
use Rattle.mc_c_types.specs.Tables.{called_function, struct_infos, tables_of}
use Rattle.mc_c_types.specs.Typing.{IsWellTyped}
use Rattle.mc_semantics.specs.Configs.{Program}
use Rattle.mc_semantics.specs.Steps.{program_of, start, Step}
use Rattle.mc_semantics.specs.Waiting.Laws.{ComesToOneEnd, ProgramsStepEndOrWait}
use Rattle.mc_semantics.specs.Waiting.Requests.{Request, IsAllowed, IsUnanswered, Waits}
use Rattle.mc_semantics.specs.Waiting.Runs.{Machine, Leads, ComesTo, GoesOn, MakesStep, IsDetermined}
use Rattle.mc_semantics.specs.Waiting.Trees.{Asks}
use Rattle.mc_lines.specs.Cert.Entries.{count_data}
use Rattle.mc_run_values.specs.declared.script.line.ScriptLine.{ScriptLine}
use Rattle.mc_run_values.specs.declared.script.line.ScriptLine.TheVariants.{Input, Malloc, Shape}
use Rattle.mc_run_values.specs.Script.Lines.{SpellsLine, line_data}
use Rattle.mc_run_values.specs.Script.Scripts.{IsChoice, IsNoChoice, blocks_in, choice_in}
use Rattle.mc_run_values.specs.Values.Taking.{Takes}
use Rattle.mc_run_values.proofs.ScriptLemmas.Forms.{line_form}
use Rattle.mc_run.specs.Runs.{AsksAfter, IsBad, RunsTo}
use Rattle.mc_run.specs.declared.interpret.ending.Ending.{Ending}
use Rattle.mc_run.specs.declared.interpret.ending.Ending.TheVariants.{Ended, Stopped, Fault, FuelSpent, Short, Bad}
use Rattle.mc_run.specs.Interpret.Faults.{FaultsAreAnswered}
use Rattle.mc_run.specs.Interpret.Programs.{outcome_of}

-- ---- runs that fault
module _ {C : Type 0} (S : Machine C Choice) (determined : IsDetermined S) (kind : FaultKind) (place : Place) where
  moved : {c d : C} {choices left : List Choice} (r : Outcome C Choice) → c ≡ d → choices ≡ left → S c choices r → S d left r
  moved {d = d} {choices = choices} r to of step = subst (λ ks. S d ks r) of (subst (λ x. S x choices r) to step)

  led : (n : ℕ) (d : C) (left : List Choice) {x y : C} {more others : List Choice} → x ≡ y → more ≡ others → Leads S n x more d left → Leads S n y others d left
  led n d left {y = y} {more = more} to of leads = subst (λ ks. Leads S n y ks d left) of (subst (λ z. Leads S n z more d left) to leads)

  -- a run that reaches a fault comes to it
  comes : (n : ℕ) (c : C) (choices : List Choice) → Reaches S n c choices (fault kind place) → (m : ℕ) × (suc m ≤ n) × ComesTo S (suc m) c choices (fault kind place)
  comes zero c choices run = absurd run
  comes (suc n) c choices (inl step) = (0, omega arith, (c, choices, (refl, refl), step))
  comes (suc n) c choices (inr (d, rest, step, run)) =
      let h = comes n d rest run in
      (suc h.0, (let le = h.1 in omega arith), (h.2.0, h.2.1, (d, rest, step, h.2.2), h.2.3))

  -- up to its fault it makes a step wherever it has come to
  pub steps : (n m : ℕ) (c d : C) (choices left : List Choice) → Leads S n c choices d left → ComesTo S (suc m) c choices (fault kind place) → MakesStep S d left
  steps zero zero c d choices left (same, all) (e, rest, (to, of), step) = (last (fault kind place), moved (last (fault kind place)) (sym to ∙ same) (sym of ∙ all) step, λ w. absurd (cc))
  steps zero (suc m) c d choices left (same, all) (e, rest, (x, more, first, later), step) = (next x more, moved (next x more) same all first, λ w. absurd (cc))
  steps (suc n) zero c d choices left (x, more, first, later) (e, rest, (to, of), step) =
      let clash : next x more ≡ last (fault kind place) = determined c choices (next x more) (last (fault kind place)) first (moved (last (fault kind place)) (sym to) (sym of) step) in
      absurd (cc)
  steps (suc n) (suc m) c d choices left (x, more, first, later) (e, rest, (y, others, other, on), step) =
      let one : next x more ≡ next y others = determined c choices (next x more) (next y others) first other in
      let to : y ≡ x = cc in
      let of : others ≡ more = cc in
      steps n m x d more left later (e, rest, led m e rest to of on, step)

  -- and it makes no step more
  pub past : (n m : ℕ) (c d : C) (choices left : List Choice) → Leads S n c choices d left → ComesTo S (suc m) c choices (fault kind place) → suc m ≤ n → ⊥
  past zero m c d choices left leads to le = omega arith
  past (suc n) zero c d choices left (x, more, first, later) (e, rest, (to, of), step) le =
      let clash : next x more ≡ last (fault kind place) = determined c choices (next x more) (last (fault kind place)) first (moved (last (fault kind place)) (sym to) (sym of) step) in
      absurd (cc)
  past (suc n) (suc m) c d choices left (x, more, first, later) (e, rest, (y, others, other, on), step) le =
      let one : next x more ≡ next y others = determined c choices (next x more) (next y others) first other in
      let to : y ≡ x = cc in
      let of : others ≡ more = cc in
      past n m x d more left later (e, rest, led m e rest to of on, step) (omega arith)

-- ---- lines that mean answers of malloc
module _ (structs : List StructInfo) where
  is_malloc : (line : ScriptLine) (k : ℕ) → choice_in structs line ≡ Some (malloc k) → line ≡ Malloc k
  is_malloc (Input v) k e = absurd (cc)
  is_malloc (Malloc n) k e = let same : n ≡ k = cc in ap Malloc same
  is_malloc (Shape v blocks) k e = absurd (by (blocks_in structs blocks) e)
    where
      by : (o : Option _) → option_map (λ entries. shape v entries) o ≡ Some (malloc k) → ⊥
      by None h = absurd (cc)
      by (Some entries) h = absurd (cc)

  -- such a line is spelled by nothing else
  malloc_line : (bytes : List ℕ) (k : ℕ) (line : ScriptLine) → IsChoice structs bytes (malloc k) → SpellsLine bytes line → line ≡ Malloc k
  malloc_line bytes k line (own, (d, json, is, fits), e) (other, json', is', fits') =
      let one : d ≡ other = same_Some d other (sym json.1 ∙ json'.1) in
      let spelled : line_data (Malloc k) ≡ line_data line = ap line_data (sym (is_malloc own k e)) ∙ sym is ∙ one ∙ is' in
      let form = line_form (codes "malloc") (count_data k ∷ []) line spelled in
      let number : count_data k ≡ count_data form.0 = form.2 in
      let same : form.0 ≡ k = cc in
      form.1 ∙ ap Malloc same

  choice_once : (bytes : List ℕ) (k : ℕ) (c : Choice) → IsChoice structs bytes (malloc k) → IsChoice structs bytes c → c ≡ malloc k
  choice_once bytes k c own (line, spells, e) =
      let is : Some (malloc k) ≡ Some c = subst (λ l. choice_in structs l ≡ Some c) (malloc_line bytes k line own spells) e in
      cc

  means_one : (bytes : List ℕ) (k : ℕ) → IsChoice structs bytes (malloc k) → IsNoChoice structs bytes → ⊥
  means_one bytes k (line, spells, e) (inl none) = none line spells
  means_one bytes k own (inr (line, spells, e)) =
      let is : Some (malloc k) ≡ None = subst (λ l. choice_in structs l ≡ None) (malloc_line bytes k line own spells) e in
      absurd (cc)

  -- what is taken are the first answers
  rest_of : (script : List (List ℕ)) (used : List Choice) (left : List (List ℕ)) (answers : List ℕ) → Takes structs script used left → Takes structs script (map malloc answers) []
      → (more : List ℕ) × (map malloc answers ≡ used ++ map malloc more) × Takes structs left (map malloc more) []
  rest_of script [] left answers took all = (answers, refl, subst (λ l. Takes structs l (map malloc answers) []) (sym took) all)
  rest_of [] (u ∷ us) left answers took all = absurd took
  rest_of (line ∷ lines) (u ∷ us) left [] took all = absurd (cc)
  rest_of (line ∷ lines) (u ∷ us) left (k ∷ ks) took all =
      let r = rest_of lines us left ks took.1 all.1 in
      (r.0, ap₂ (λ (c : Choice) (l : List Choice). c ∷ l) (sym (choice_once line k u all.0 took.0)) r.1, r.2)

  none_more : (more : List ℕ) → Takes structs [] (map malloc more) [] → more ≡ []
  none_more [] took = refl
  none_more (k ∷ ks) took = absurd took

  -- a line that is refused means an answer that is not allowed
  refused : (request : Request) (left : List (List ℕ)) (more : List ℕ) → Takes structs left (map malloc more) [] → IsBad structs request left → IsUnanswered request (map malloc more)
  refused request [] more took (inl (new, r)) = absurd r
  refused request [] more took (inr (new, r)) = absurd r
  refused request (line ∷ lines) [] took bad = tt
  refused request (line ∷ lines) (k ∷ ks) took (inl (new, r)) = absurd (means_one line k took.0 r.0)
  refused request (line ∷ lines) (k ∷ ks) took (inr (new, r)) =
      λ allowed. r.0.2 (subst (λ (c : Choice). IsAllowed request c) (sym (choice_once line k r.0.0 took.0 r.0.1)) allowed)

-- ---- what is answered
module _ (determined : (p : Program) → IsDetermined (Step p)) (only : (p : Program) → ComesToOneEnd (Step p)) (waiting : ProgramsStepEndOrWait)
    (unit : UnitTree) (entry : List ℕ) (defs : List Def) (f : FunctionTree) (answers : List ℕ) (script : List (List ℕ)) (n fuel : ℕ) (kind : FaultKind) (place : Place)
    (typed : IsWellTyped unit entry) (called : called_function (tables_of unit) entry ≡ Some f)
    (run : Reaches (Step (program_of unit defs)) n (start (program_of unit defs) f) (map malloc answers) (fault kind place)) (le : n ≤ fuel)
    (takes : Takes (struct_infos unit) script (map malloc answers) []) where
  abbrev p : Program
  p = program_of unit defs

  abbrev choices : List Choice
  choices = map malloc answers

  came : (m : ℕ) × (suc m ≤ n) × ComesTo (Step p) (suc m) (start p f) choices (fault kind place)
  came = comes (Step p) (determined p) kind place n (start p f) choices run

  -- where a run with these choices waits it has not faulted
  never : (m : ℕ) (d : _) (left : List Choice) → Leads (Step p) m (start p f) choices d left → Waits (Asks p d left) → ⊥
  never m d left leads waits =
      (waiting unit entry defs f typed called m choices left d leads).nor_first (steps (Step p) (determined p) kind place m came.0 (start p f) d choices left leads came.2) waits

  answered : (ending : Ending) → RunsTo (Step p) (Asks p) (struct_infos unit) (start p f) script fuel (outcome_of ending) → ending ≡ Fault kind place
  answered Ended (used, left, took, (m, less, to)) =
      let more = rest_of (struct_infos unit) script used left answers took takes in
      let own = subst (λ ks. ComesTo (Step p) m (start p f) ks ended) (sym more.1) (to (map malloc more.0)) in
      let clash : ended ≡ fault kind place = (only p m (suc came.0) (start p f) choices ended (fault kind place) own came.2).1 in
      absurd (cc)
  answered Stopped (used, left, took, (m, less, to)) =
      let more = rest_of (struct_infos unit) script used left answers took takes in
      let own = subst (λ ks. ComesTo (Step p) m (start p f) ks stopped) (sym more.1) (to (map malloc more.0)) in
      let clash : stopped ≡ fault kind place = (only p m (suc came.0) (start p f) choices stopped (fault kind place) own came.2).1 in
      absurd (cc)
  answered (Fault k q) (used, left, took, (m, less, to)) =
      let more = rest_of (struct_infos unit) script used left answers took takes in
      let own = subst (λ ks. ComesTo (Step p) m (start p f) ks (fault k q)) (sym more.1) (to (map malloc more.0)) in
      let one : fault k q ≡ fault kind place = (only p m (suc came.0) (start p f) choices (fault k q) (fault kind place) own came.2).1 in
      let kinds : k ≡ kind = cc in
      let places : q ≡ place = cc in
      ap₂ Fault kinds places
  answered FuelSpent (used, left, took, on) =
      let more = rest_of (struct_infos unit) script used left answers took takes in
      let own = subst (λ ks. GoesOn (Step p) fuel (start p f) ks) (sym more.1) (on (map malloc more.0)) in
      let less = came.1 in
      absurd (past (Step p) (determined p) kind place fuel came.0 (start p f) own.0 choices own.1 own.2 came.2 (omega arith))
  answered (Short k) (used, left, took, (number, (m, less, (request, asks, none)))) =
      let more = rest_of (struct_infos unit) script used left answers took takes in
      let empty : more.0 ≡ [] = none_more (struct_infos unit) more.0 (subst (λ l. Takes (struct_infos unit) l (map malloc more.0) []) none more.2) in
      let all : choices ≡ used ++ [] = more.1 ∙ ap (λ (l : List ℕ). used ++ map malloc l) empty in
      let asked = subst (λ ks. AsksAfter (Step p) (Asks p) m (start p f) ks request []) (sym all) (asks []) in
      absurd (never m asked.0 asked.1 asked.2 (record { request = request; left = []; asks = asked.3; unanswered = tt }))
  answered (Bad k) (used, left, took, (number, (m, less, (request, asks, bad)))) =
      let more = rest_of (struct_infos unit) script used left answers took takes in
      let asked = subst (λ ks. AsksAfter (Step p) (Asks p) m (start p f) ks request (map malloc more.0)) (sym more.1) (asks (map malloc more.0)) in
      absurd (never m asked.0 asked.1 asked.2 (record { request = request; left = map malloc more.0; asks = asked.3; unanswered = refused (struct_infos unit) request left more.0 more.2 bad }))

pub faults_are_answered : ((p : Program) → IsDetermined (Step p)) → ((p : Program) → ComesToOneEnd (Step p)) → ProgramsStepEndOrWait → FaultsAreAnswered
faults_are_answered determined only waiting unit entry defs f answers script n fuel kind place ending typed called run le takes (h, is, runs) =
    answered determined only waiting unit entry defs f answers script n fuel kind place typed called run le takes ending
    (subst (λ (g : FunctionTree). RunsTo (Step (program_of unit defs)) (Asks (program_of unit defs)) (struct_infos unit) (start (program_of unit defs) g) script fuel (outcome_of ending)) (same_Some h f (sym is ∙ called)) runs)
