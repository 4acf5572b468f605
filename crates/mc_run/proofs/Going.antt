-- A run, step by step.
use Rattle.std.proofs.Common.{◌≡◌, ◌∙◌, ◌⊎◌, ◌++◌, ◌+◌, ◌-◌, ◌≤◌, inl, inr, ℕ, zero, suc, List, [], ◌∷◌, length, refl, sym, ap, ap₂, subst, append_assoc, arith}
use Rattle.mc_flow.specs.Runs.{next, last, ended, stopped, fault}
use Rattle.mc_flow.specs.Heap.Choices.{Choice}
use Rattle.mc_flow.specs.declared.defs.shapes.StructInfo.{StructInfo}
use Rattle.mc_semantics.specs.Waiting.Requests.{Request}
use Rattle.mc_semantics.specs.Waiting.Runs.{ComesTo, Leads}
use Rattle.std.specs.FinMap as maps
use Rattle.mc_semantics.specs.Resolved.Programs.{Function, Program}
use Rattle.mc_semantics.specs.Resolved.Configs.{Config, Result, Tasks, Values, done}
use Rattle.mc_semantics.specs.Resolved.Moves.{Arrives}
use Rattle.mc_semantics.specs.Resolved.Steps.{Does, start, Step}
use Rattle.mc_run_values.specs.Tasks.Going.{Comes, Has, LeavesLoop, tasks_of, values_of}
use Rattle.mc_run_values.specs.declared.tasks.next.Next.{Next}
use Rattle.mc_run_values.specs.declared.tasks.work.Work.{Work}
use Rattle.mc_run_values.proofs.TasksLemmas.Ending.{one_end}
use Rattle.mc_run_values.specs.declared.values.refusal.Refusal.{Refusal}
use Rattle.mc_run_values.specs.declared.values.refusal.Refusal.TheVariants.{Missing, Unreadable, NotAllowed}
use Rattle.mc_run_values.specs.Values.Taking.{IsRefused, Takes}
use Rattle.mc_run_values.proofs.ValuesLemmas.Taking.{takes_more}
use Rattle.mc_run.specs.declared.outcome.End.{End}
use Rattle.mc_run.specs.declared.outcome.End.TheVariants as ends
use Rattle.mc_run.specs.declared.outcome.Stepped.{Stepped}
use Rattle.mc_run.specs.declared.outcome.Stepped.TheVariants as steps
use Rattle.mc_run.specs.Asking.{Asks, TaskAsks}
use Rattle.mc_run.specs.Models.{final_of, outcome_of, refused_as}
use Rattle.mc_run.specs.declared.outcome.Outcome.TheVariants as outcomes
use Rattle.mc_run.specs.Runs.{AsksInVain, IsBad, IsShort, Runs}
use Rattle.mc_run.specs.Steps.{IsStep}
use Rattle.mc_run.proofs.Leaving.{kept_or_leaves, leaves_no_question, leaves_no_step, only_last}
use Rattle.mc_run.proofs.NotEnded.{only_done}
use Rattle.mc_run.proofs.Changing.{at_config}
use Rattle.mc_flow.specs.Heap.Heap.{Heap}

-- ---- a step of what is first among the tasks is a step of the configuration
-- two steps that do and ask the same
step_alike : (structs : List StructInfo) (Does Other : List Choice → Result → Type 0) (Asks Question : List Choice → Request → List Choice → Type 0) (stepped : Stepped) (c : Config) (old new : List (List ℕ))
    → ((choices : List Choice) (r : Result) → Does choices r → Other choices r) → ((choices : List Choice) (r : Result) → Other choices r → Does choices r)
    → ((choices left : List Choice) (request : Request) → Asks choices request left → Question choices request left)
    → ((choices left : List Choice) (request : Request) → Question choices request left → Asks choices request left)
    → IsStep structs Does Asks old stepped c new → IsStep structs Other Question old stepped c new
step_alike structs Does Other Asks Question steps.Goes c old new does undoes asks unasks g = (g.0, g.1, λ rest. does (g.0 ++ rest) (next c rest) (g.2 rest))
step_alike structs Does Other Asks Question (steps.Ends f) c old new does undoes asks unasks g = (g.0, g.1, λ rest. does (g.0 ++ rest) (last (final_of f)) (g.2 rest))
step_alike structs Does Other Asks Question (steps.Unanswered why) c old new does undoes asks unasks g =
    (g.0, (g.1.0, (g.1.1.0, g.1.1.1, λ rest. asks (g.1.1.0 ++ rest) rest g.0 (g.1.1.2 rest)), g.1.2))
step_alike structs Does Other Asks Question steps.Stuck c old new does undoes asks unasks g = (
  g.0,
  g.1,
  λ rest. (
    λ r is. (g.2 rest).0 r (undoes (g.0 ++ rest) r is),
    λ w. (g.2 rest).1 (record { request = w.request; left = w.left; asks = unasks (g.0 ++ rest) w.left w.request w.asks; unanswered = w.unanswered }),
  ),
)

module _ (p : Program) (d : Config) (kept values : Values) (tasks : Tasks) (arrives : Arrives d.values d.tasks values tasks) (same : (kept ≡ values) ⊎ LeavesLoop tasks) where
  does_there : (choices : List Choice) (r : Result) → Does p (record { values = kept; heap = d.heap }) tasks choices r → Step p d choices r
  does_there choices r is = elim same [
    | inl e ↦ (values, tasks, arrives, (let P : Values → Type 0 = λ v. Does p (record { values = v; heap = d.heap }) tasks choices r in subst P e is))
    | inr l ↦ absurd (leaves_no_step p (record { values = kept; heap = d.heap }) tasks l choices r is)
  ]

  does_here : (choices : List Choice) (r : Result) → Step p d choices r → Does p (record { values = kept; heap = d.heap }) tasks choices r
  does_here choices r (later, ready, comes, is) =
      let once = one_end d.values later values d.tasks ready tasks comes arrives in
      let P : Values → Type 0 = λ v. Does p (record { values = v; heap = d.heap }) ready choices r in
      let Q : Tasks → Type 0 = λ t. Does p (record { values = values; heap = d.heap }) t choices r in
      let there : Does p (record { values = values; heap = d.heap }) tasks choices r = subst Q once.1 (subst P once.0 is) in
      elim same [
        | inl e ↦ (let R : Values → Type 0 = λ v. Does p (record { values = v; heap = d.heap }) tasks choices r in subst R (sym e) there)
        | inr l ↦ absurd (leaves_no_step p (record { values = values; heap = d.heap }) tasks l choices r there)
      ]

  asks_there : (choices left : List Choice) (request : Request) → TaskAsks p.defs kept d.heap tasks choices request left → Asks p d choices request left
  asks_there choices left request is = elim same [
    | inl e ↦ (values, tasks, arrives, (let P : Values → Type 0 = λ v. TaskAsks p.defs v d.heap tasks choices request left in subst P e is))
    | inr l ↦ absurd (leaves_no_question p kept d.heap tasks l choices left request is)
  ]

  asks_here : (choices left : List Choice) (request : Request) → Asks p d choices request left → TaskAsks p.defs kept d.heap tasks choices request left
  asks_here choices left request (later, ready, comes, is) =
      let once = one_end d.values later values d.tasks ready tasks comes arrives in
      let P : Values → Type 0 = λ v. TaskAsks p.defs v d.heap ready choices request left in
      let Q : Tasks → Type 0 = λ t. TaskAsks p.defs values d.heap t choices request left in
      let there : TaskAsks p.defs values d.heap tasks choices request left = subst Q once.1 (subst P once.0 is) in
      elim same [
        | inl e ↦ (let R : Values → Type 0 = λ v. TaskAsks p.defs v d.heap tasks choices request left in subst R (sym e) there)
        | inr l ↦ absurd (leaves_no_question p values d.heap tasks l choices left request there)
      ]

  step_made : (structs : List StructInfo) (stepped : Stepped) (c : Config) (old new : List (List ℕ))
      → IsStep structs (λ choices r. Does p (record { values = kept; heap = d.heap }) tasks choices r) (λ choices request left. TaskAsks p.defs kept d.heap tasks choices request left) old stepped c new
      → IsStep structs (λ choices r. Step p d choices r) (λ choices request left. Asks p d choices request left) old stepped c new
  step_made structs stepped c old new g = step_alike structs _ _ _ _ stepped c old new does_there does_here asks_there asks_here g

-- where something is next, the run has not ended
not_at_end : (p : Program) (d : Config) (following : Next) (w : Work) (values : Values) (tasks : Tasks) → Arrives d.values d.tasks values tasks → Has following w tasks → (following ≡ Next.Done → ⊥)
    → (choices : List Choice) → Step p d choices (last ended) → ⊥
not_at_end p d following w values tasks arrives has other choices (later, ready, comes, is) =
    let once = one_end d.values later values d.tasks ready tasks comes arrives in
    other (only_last following w tasks has (sym once.1 ∙ only_done p (record { values = later; heap = d.heap }) ready choices is))

-- ---- lines that are taken
pub takes_length : (structs : List StructInfo) (lines : List (List ℕ)) (used : List Choice) (left : List (List ℕ)) → Takes structs lines used left → length lines ≡ length used + length left
takes_length structs lines [] left h = omega (arith, ap (λ (all : List (List ℕ)). length all) h)
takes_length structs [] (c ∷ cs) left h = absurd h
takes_length structs (line ∷ lines) (c ∷ cs) left h = omega (arith, takes_length structs lines cs left h.1)

-- a line that is refused is gone
fewer : (structs : List StructInfo) (request : Request) (old new : List (List ℕ)) (why : Refusal) → IsRefused structs request old why new → length new ≤ length old
fewer structs request [] new Missing h =
    let none : length new ≡ 0 = ap (λ (all : List (List ℕ)). length all) h in
    omega (arith, none)
fewer structs request [] new Unreadable h = absurd h
fewer structs request [] new NotAllowed h = absurd h
fewer structs request (line ∷ lines) new Missing h = absurd h
fewer structs request (line ∷ lines) new Unreadable h =
    let same : length new ≡ length lines = ap (λ (all : List (List ℕ)). length all) h.1 in
    omega (arith, same)
fewer structs request (line ∷ lines) new NotAllowed h =
    let same : length new ≡ length lines = ap (λ (all : List (List ℕ)). length all) h.1 in
    omega (arith, same)

-- ---- one step more
leads_more : (p : Program) (n : ℕ) (c d e : Config) (choices left rest : List Choice) → Leads (Step p) n c choices d left → Step p d left (next e rest) → Leads (Step p) (suc n) c choices e rest
leads_more p zero c d e choices left rest h step =
    let P : Config → Type 0 = λ x. Step p x choices (next e rest) in
    let Q : List Choice → Type 0 = λ cs. Step p d cs (next e rest) in
    (e, rest, subst P (sym h.0) (subst Q (sym h.1) step), (refl, refl))
leads_more p (suc n) c d e choices left rest (x, more, first, h) step = (x, more, first, leads_more p n x d e more left rest h step)

module _ (p : Program) (structs : List StructInfo) (c : Config) (script : List (List ℕ)) (fuel : ℕ) where
  -- so many steps were made that this fuel is left
  abbrev pub SoFar : ℕ → Config → List (List ℕ) → Type 0
  SoFar left d lines =
      (used : List Choice) × Takes structs script used lines × ((n : ℕ) × (n + left ≡ fuel) × ((rest : List Choice) → Leads (Step p) n c (used ++ rest) d rest))

  pub begun : SoFar fuel c script
  begun = ([], refl, (0, omega arith, λ rest. (refl, refl)))

  abbrev IsMade : Config → List (List ℕ) → Stepped → Config → List (List ℕ) → Type 0
  IsMade d lines stepped e new = IsStep structs (λ choices r. Step p d choices r) (λ choices request left. Asks p d choices request left) lines stepped e new

  goes_made : (left later : ℕ) (d e : Config) (lines new : List (List ℕ)) → SoFar left d lines → left ≡ suc later → IsMade d lines steps.Goes e new → SoFar later e new
  goes_made left later d e lines new (used, takes, (n, spent, leads)) is (more, takes_too, step) = (
    used ++ more,
    takes_more structs script lines new used more takes takes_too,
    (
      suc n,
      omega (arith),
      λ rest. (
          let P : List Choice → Type 0 = λ cs. Leads (Step p) (suc n) c cs e rest in
          subst P (sym (append_assoc used more rest)) (leads_more p n c d e (used ++ (more ++ rest)) (more ++ rest) rest (leads (more ++ rest)) (step rest))),
    ),
  )

  ends_made : (left later : ℕ) (d e : Config) (lines new : List (List ℕ)) (end : End) → SoFar left d lines → left ≡ suc later → IsMade d lines (steps.Ends end) e new → Runs p structs c script fuel (outcome_of end)
  ends_made left later d e lines new ends.Ended (used, takes, (n, spent, leads)) is (more, takes_too, step) = (
    used ++ more,
    new,
    takes_more structs script lines new used more takes takes_too,
    (
      n,
      omega (arith),
      λ rest. (
          let P : List Choice → Type 0 = λ cs. ComesTo (Step p) n c cs ended in
          subst P (sym (append_assoc used more rest)) (d, more ++ rest, leads (more ++ rest), step rest)),
    ),
  )
  ends_made left later d e lines new ends.Stopped (used, takes, (n, spent, leads)) is (more, takes_too, step) = (
    used ++ more,
    new,
    takes_more structs script lines new used more takes takes_too,
    (
      suc n,
      omega (arith),
      λ rest. (
          let P : List Choice → Type 0 = λ cs. ComesTo (Step p) (suc n) c cs stopped in
          subst P (sym (append_assoc used more rest)) (d, more ++ rest, leads (more ++ rest), step rest)),
    ),
  )
  ends_made left later d e lines new (ends.Fault kind place) (used, takes, (n, spent, leads)) is (more, takes_too, step) = (
    used ++ more,
    new,
    takes_more structs script lines new used more takes takes_too,
    (
      suc n,
      omega (arith),
      λ rest. (
          let P : List Choice → Type 0 = λ cs. ComesTo (Step p) (suc n) c cs (fault kind place) in
          subst P (sym (append_assoc used more rest)) (d, more ++ rest, leads (more ++ rest), step rest)),
    ),
  )

  stuck_made : (left later : ℕ) (d e : Config) (lines new : List (List ℕ)) → SoFar left d lines → left ≡ suc later → IsMade d lines steps.Stuck e new
      → Runs p structs c script fuel outcomes.Stuck
  stuck_made left later d e lines new (used, takes, (n, spent, leads)) is (more, takes_too, none) = (
    used ++ more,
    new,
    takes_more structs script lines new used more takes takes_too,
    (
      n,
      omega (arith),
      λ rest. (
        d,
        more ++ rest,
        (let P : List Choice → Type 0 = λ cs. Leads (Step p) n c cs d (more ++ rest) in subst P (sym (append_assoc used more rest)) (leads (more ++ rest))),
        none rest,
      ),
    ),
  )

  asks_made : (left later n : ℕ) (d : Config) (lines middle : List (List ℕ)) (used more : List Choice) (request : Request) (number : ℕ) (Refuse : Request → List (List ℕ) → Type 0)
      → Takes structs script used lines → n + left ≡ fuel → ((rest : List Choice) → Leads (Step p) n c (used ++ rest) d rest) → left ≡ suc later
      → Takes structs lines more middle → ((rest : List Choice) → Asks p d (more ++ rest) request rest) → number ≡ length (used ++ more) + 1 → Refuse request middle
      → AsksInVain (Step p) (Asks p) structs c script fuel number Refuse
  asks_made left later n d lines middle used more request number Refuse takes spent leads is takes_too asks same refused = (
    used ++ more,
    middle,
    takes_more structs script lines middle used more takes takes_too,
    (
      same,
      (
        n,
        omega (arith),
        (
          request,
          λ rest. (
            d,
            more ++ rest,
            (let P : List Choice → Type 0 = λ cs. Leads (Step p) n c cs d (more ++ rest) in subst P (sym (append_assoc used more rest)) (leads (more ++ rest))),
            asks rest,
          ),
          refused,
        ),
      ),
    ),
  )

  refused_made : (left later : ℕ) (d e : Config) (lines new : List (List ℕ)) (why : Refusal) → SoFar left d lines → left ≡ suc later → IsMade d lines (steps.Unanswered why) e new
      → Runs p structs c script fuel (refused_as why (length script - length new))
  refused_made left later d e lines new Missing (used, takes, (n, spent, leads)) is (request, ([], (more, takes_too, asks), refused)) =
      let none : length new ≡ 0 = ap (λ (all : List (List ℕ)). length all) refused in
      let all : length script ≡ length (used ++ more) + 0 = takes_length structs script (used ++ more) [] (takes_more structs script lines [] used more takes takes_too) in
      asks_made left later n d lines [] used more request (length script - length new + 1) IsShort takes spent leads is takes_too asks (omega (arith, none, all)) refl
  refused_made left later d e lines new Missing so is (request, (line ∷ others, taken, refused)) = absurd refused
  refused_made left later d e lines new Unreadable so is (request, ([], taken, refused)) = absurd refused
  refused_made left later d e lines new Unreadable (used, takes, (n, spent, leads)) is (request, (line ∷ others, (more, takes_too, asks), refused)) =
      let same : length new ≡ length others = ap (λ (all : List (List ℕ)). length all) refused.1 in
      let all : length script ≡ length (used ++ more) + suc (length others) = takes_length structs script (used ++ more) (line ∷ others) (takes_more structs script lines (line ∷ others) used more takes takes_too) in
      asks_made left later n d lines (line ∷ others) used more request (length script - length new) (IsBad structs) takes spent leads is takes_too asks (omega (arith, same, all)) (inl (new, refused))
  refused_made left later d e lines new NotAllowed so is (request, ([], taken, refused)) = absurd refused
  refused_made left later d e lines new NotAllowed (used, takes, (n, spent, leads)) is (request, (line ∷ others, (more, takes_too, asks), refused)) =
      let same : length new ≡ length others = ap (λ (all : List (List ℕ)). length all) refused.1 in
      let all : length script ≡ length (used ++ more) + suc (length others) = takes_length structs script (used ++ more) (line ∷ others) (takes_more structs script lines (line ∷ others) used more takes takes_too) in
      asks_made left later n d lines (line ∷ others) used more request (length script - length new) (IsBad structs) takes spent leads is takes_too asks (omega (arith, same, all)) (inr (new, refused))

  lines_left : (left : ℕ) (d e : Config) (lines new : List (List ℕ)) (why : Refusal) → SoFar left d lines → IsMade d lines (steps.Unanswered why) e new → length new ≤ length script
  lines_left left d e lines new why (used, takes, (n, spent, leads)) (request, (middle, (more, takes_too, asks), refused)) =
      let before : length script ≡ length used + length lines = takes_length structs script used lines takes in
      let after : length lines ≡ length more + length middle = takes_length structs lines more middle takes_too in
      let gone : length new ≤ length middle = fewer structs request middle new why refused in
      omega (arith, before, after, gone)

  -- ---- before a step
  pub ended_here : (left : ℕ) (d : Config) (lines : List (List ℕ)) → SoFar left d lines → ((choices : List Choice) → Step p d choices (last ended)) → Runs p structs c script fuel outcomes.Ended
  ended_here left d lines (used, takes, (n, spent, leads)) ends = (used, lines, takes, (n, omega (arith), λ rest. (d, rest, leads rest, ends rest)))

  pub spent_here : (left : ℕ) (d : Config) (lines : List (List ℕ)) → SoFar left d lines → left ≡ 0 → ((choices : List Choice) → Step p d choices (last ended) → ⊥)
      → Runs p structs c script fuel outcomes.FuelSpent
  spent_here left d lines (used, takes, (n, spent, leads)) is never = (
    used,
    lines,
    takes,
    λ rest. (d, rest, (let P : ℕ → Type 0 = λ m. Leads (Step p) m c (used ++ rest) d rest in let all : n ≡ fuel = omega (arith) in subst P all (leads rest)), never rest),
  )

-- nothing is left to do
pub at_end : (p : Program) (d : Config) (values : Values) (tasks : Tasks) → Arrives d.values d.tasks values tasks → tasks ≡ done → (choices : List Choice) → Step p d choices (last ended)
at_end p d values tasks arrives is choices =
    let P : Tasks → Type 0 = λ t. Does p (record { values = values; heap = d.heap }) t choices (last ended) in
    (values, tasks, arrives, subst P (sym is) refl)

-- ---- as the loop has it
module _ (p : Program) (structs : List StructInfo) (c : Config) (script : List (List ℕ)) (fuel left : ℕ) (w after : Work) (heap : Heap) (lines : List (List ℕ)) (following : Next)
    (so : SoFar p structs c script fuel left (at_config (tasks_of w) (values_of w) heap) lines) (comes : Comes w following after) where
  pub run_ended : following ≡ Next.Done → Runs p structs c script fuel outcomes.Ended
  run_ended is =
      let P : Next → Type 0 = λ x. Has x after comes.tasks in
      ended_here p structs c script fuel left (at_config (tasks_of w) (values_of w) heap) lines so (at_end p (at_config (tasks_of w) (values_of w) heap) comes.values comes.tasks comes.arrives (subst P is comes.stands.1))

  pub run_spent : left ≡ 0 → (following ≡ Next.Done → ⊥) → Runs p structs c script fuel outcomes.FuelSpent
  run_spent none other =
      spent_here p structs c script fuel left (at_config (tasks_of w) (values_of w) heap) lines so none (not_at_end p (at_config (tasks_of w) (values_of w) heap) following after comes.values comes.tasks comes.arrives comes.stands.1 other)

  -- what the step comes to is known of all tasks that have it first
  abbrev IsMadeThen : Stepped → Config → List (List ℕ) → Type 0
  IsMadeThen stepped e new =
      (tasks : Tasks) → Has following after tasks
      → IsStep structs (λ choices r. Does p (record { values = values_of after; heap = heap }) tasks choices r) (λ choices request rest. TaskAsks p.defs (values_of after) heap tasks choices request rest) lines stepped e new

  made : (stepped : Stepped) (e : Config) (new : List (List ℕ)) → IsMadeThen stepped e new
      → IsStep structs (λ choices r. Step p (at_config (tasks_of w) (values_of w) heap) choices r) (λ choices request rest. Asks p (at_config (tasks_of w) (values_of w) heap) choices request rest) lines stepped e new
  made stepped e new step =
      step_made p (at_config (tasks_of w) (values_of w) heap) (values_of after) comes.values comes.tasks comes.arrives
      (kept_or_leaves following after comes.values comes.tasks comes.stands.1 comes.stands.2) structs stepped e lines new (step comes.tasks comes.stands.1)

  pub run_goes : (later : ℕ) (stepped : Stepped) (e : Config) (new : List (List ℕ)) → left ≡ suc later → stepped ≡ steps.Goes → IsMadeThen stepped e new → SoFar p structs c script fuel later e new
  run_goes later stepped e new is goes step =
      let P : Stepped → Type 0 = λ s. IsMadeThen s e new in
      goes_made p structs c script fuel left later (at_config (tasks_of w) (values_of w) heap) e lines new so is (made steps.Goes e new (subst P goes step))

  pub run_ends : (later : ℕ) (stepped : Stepped) (end : End) (e : Config) (new : List (List ℕ)) → left ≡ suc later → stepped ≡ steps.Ends end → IsMadeThen stepped e new → Runs p structs c script fuel (outcome_of end)
  run_ends later stepped end e new is ends step =
      let P : Stepped → Type 0 = λ s. IsMadeThen s e new in
      ends_made p structs c script fuel left later (at_config (tasks_of w) (values_of w) heap) e lines new end so is (made (steps.Ends end) e new (subst P ends step))

  pub run_refused : (later : ℕ) (stepped : Stepped) (why : Refusal) (e : Config) (new : List (List ℕ)) → left ≡ suc later → stepped ≡ steps.Unanswered why → IsMadeThen stepped e new
      → Runs p structs c script fuel (refused_as why (length script - length new))
  run_refused later stepped why e new is waits step =
      let P : Stepped → Type 0 = λ s. IsMadeThen s e new in
      refused_made p structs c script fuel left later (at_config (tasks_of w) (values_of w) heap) e lines new why so is (made (steps.Unanswered why) e new (subst P waits step))

  pub run_left : (stepped : Stepped) (why : Refusal) (e : Config) (new : List (List ℕ)) → stepped ≡ steps.Unanswered why → IsMadeThen stepped e new → length new ≤ length script
  run_left stepped why e new waits step =
      let P : Stepped → Type 0 = λ s. IsMadeThen s e new in
      lines_left p structs c script fuel left (at_config (tasks_of w) (values_of w) heap) e lines new why so (made (steps.Unanswered why) e new (subst P waits step))

  pub run_stuck : (later : ℕ) (stepped : Stepped) (e : Config) (new : List (List ℕ)) → left ≡ suc later → stepped ≡ steps.Stuck → IsMadeThen stepped e new → Runs p structs c script fuel outcomes.Stuck
  run_stuck later stepped e new is stuck step =
      let P : Stepped → Type 0 = λ s. IsMadeThen s e new in
      stuck_made p structs c script fuel left later (at_config (tasks_of w) (values_of w) heap) e lines new so is (made steps.Stuck e new (subst P stuck step))

-- the run begins
pub starts : (p : Program) (structs : List StructInfo) (f : Function) (script : List (List ℕ)) (fuel : ℕ) (w : Work) (heap : Heap) → tasks_of w ≡ (start f).tasks → values_of w ≡ (start f).values → heap ≡ maps.empty
    → SoFar p structs (start f) script fuel fuel (at_config (tasks_of w) (values_of w) heap) script
starts p structs f script fuel w heap tasks values none =
    let first : at_config (tasks_of w) (values_of w) heap ≡ start f =
    ap₂ (λ (t : Tasks) (v : Values). at_config t v heap) tasks values ∙ ap (λ (m : Heap). at_config (start f).tasks (start f).values m) none in
    let P : Config → Type 0 = λ d. SoFar p structs (start f) script fuel fuel d script in
    subst P (sym first) (begun p structs (start f) script fuel)
