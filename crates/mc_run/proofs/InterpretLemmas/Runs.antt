-- What a resolved program comes to its program comes to.
use Rattle.std.proofs.Common.{◌≡◌, ◌++◌, ℕ, zero, suc, List, [], Option, Some, refl, subst}
use Rattle.mc_flow.specs.Runs.{Final, next, last, ended, stopped, fault}
use Rattle.mc_flow.specs.Heap.Choices.{Choice}
use Rattle.mc_flow.specs.declared.defs.rules.Def.{Def}
use Rattle.mc_flow.specs.declared.defs.shapes.StructInfo.{StructInfo}
use Rattle.mc_c_syntax.specs.Ast.Trees.{FunctionTree, UnitTree}
use Rattle.mc_c_types.specs.Tables.{Tables, called_function, struct_infos, tables_of}
use Rattle.mc_c_types.specs.Typing.{IsWellTyped}
use Rattle.mc_semantics.specs.Configs as named
use Rattle.mc_semantics.specs.Steps as named_steps
use Rattle.mc_semantics.specs.Steps.{program_of}
use Rattle.mc_semantics.specs.Waiting.Laws.{ProgramsStepEndOrWait}
use Rattle.mc_semantics.specs.Waiting.Requests.{Request, Waits}
use Rattle.mc_semantics.specs.Waiting.Runs.{ComesTo, GoesOn, HasEnded, IsOneOf, Leads, MakesStep}
use Rattle.mc_semantics.specs.Waiting.Trees as trees
use Rattle.mc_semantics.specs.Resolved.Configs.{Config}
use Rattle.mc_semantics.specs.Resolved.Programs.{Function}
use Rattle.mc_semantics.specs.Resolved.Steps as steps
use Rattle.mc_semantics.specs.Resolved.Resolving.{resolved_program}
use Rattle.mc_semantics.specs.Resolved.Running.{Match, RunAlike, program, StepAlike}
use Rattle.mc_run.specs.declared.outcome.Outcome.{Outcome}
use Rattle.mc_run.specs.declared.outcome.Outcome.TheVariants as outcomes
use Rattle.mc_run.specs.Asking.{Asks}
use Rattle.mc_run.specs.Runs.{AsksAfter, Runs, RunsFrom, RunsTo}
use Rattle.mc_run.specs.Steps.{HasNoStep}
use Rattle.mc_run.specs.Interpret.Programs.{ResolvedRuns}
use Rattle.mc_run.proofs.InterpretLemmas.Entries.{has_entry}
use Rattle.mc_run.proofs.InterpretLemmas.Asking.{EachAlike, EachArrives, asks_alike}
use Rattle.mc_semantics.proofs.ResolvedLemmas.Running.{end_from, end_of, on_from}

abbrev pub StepsAlike : Tables → List Def → List ℕ → Type 0
StepsAlike t defs entry = (c : named.Config) (d : Config) (choices : List Choice) → Match t defs c d → StepAlike t defs entry c d choices

module _ (t : Tables) (defs : List Def) (entry : List ℕ) (alike : StepsAlike t defs entry) (each : EachAlike) (arrives : EachArrives) where
  -- the program is led to a configuration that matches
  abbrev Led : ℕ → named.Config → List Choice → Config → List Choice → Type 0
  Led n c choices e left = (x : named.Config) × Leads (named_steps.Step (program t defs)) n c choices x left × Match t defs x e

  leads_back : (n : ℕ) (c : named.Config) (d e : Config) (choices left : List Choice) → Match t defs c d → Leads (steps.Step (resolved_program t defs entry)) n d choices e left → Led n c choices e left
  leads_back zero c d e choices left m (same, all) = (c, (refl, all), subst (λ z. Match t defs c z) same m)
  leads_back (suc n) c d e choices left m (x, more, first, rest) =
      let k = (alike c d choices m).back (next x more) first in
      let on = on_from t defs k.2 in
      let later = leads_back n on.0 x e more left on.2 rest in
      (later.0, (on.0, more, subst (λ r. named_steps.Step (program t defs) c choices r) on.1 k.1, later.1), later.2)

  last_back : (c : named.Config) (d : Config) (choices : List Choice) (f : Final) → Match t defs c d → steps.Step (resolved_program t defs entry) d choices (last f) → named_steps.Step (program t defs) c choices (last f)
  last_back c d choices f m is =
      let k = (alike c d choices m).back (last f) is in
      subst (λ r. named_steps.Step (program t defs) c choices r) (end_from t defs k.2) k.1

  last_forth : (c : named.Config) (d : Config) (choices : List Choice) (f : Final) → Match t defs c d → named_steps.Step (program t defs) c choices (last f) → steps.Step (resolved_program t defs entry) d choices (last f)
  last_forth c d choices f m is =
      let k = (alike c d choices m).forth (last f) is in
      subst (λ s. steps.Step (resolved_program t defs entry) d choices s) (end_of t defs k.2) k.1

  comes_back : (n : ℕ) (c : named.Config) (d : Config) (choices : List Choice) (f : Final) → Match t defs c d → ComesTo (steps.Step (resolved_program t defs entry)) n d choices f → ComesTo (named_steps.Step (program t defs)) n c choices f
  comes_back n c d choices ended m (e, left, leads, is) =
      let led = leads_back n c d e choices left m leads in (led.0, left, led.1, last_back led.0 e left ended led.2 is)
  comes_back zero c d choices stopped m bad = absurd bad
  comes_back (suc n) c d choices stopped m (e, left, leads, is) =
      let led = leads_back n c d e choices left m leads in (led.0, left, led.1, last_back led.0 e left stopped led.2 is)
  comes_back zero c d choices (fault kind place) m bad = absurd bad
  comes_back (suc n) c d choices (fault kind place) m (e, left, leads, is) =
      let led = leads_back n c d e choices left m leads in (led.0, left, led.1, last_back led.0 e left (fault kind place) led.2 is)

  goes_back : (n : ℕ) (c : named.Config) (d : Config) (choices : List Choice) → Match t defs c d → GoesOn (steps.Step (resolved_program t defs entry)) n d choices → GoesOn (named_steps.Step (program t defs)) n c choices
  goes_back n c d choices m (e, left, leads, never) =
      let led = leads_back n c d e choices left m leads in (led.0, left, led.1, λ is. never (last_forth led.0 e left ended led.2 is))

  asks_back : (n : ℕ) (c : named.Config) (d : Config) (choices rest : List Choice) (request : Request) → Match t defs c d
      → AsksAfter (steps.Step (resolved_program t defs entry)) (Asks (resolved_program t defs entry)) n d choices request rest
      → AsksAfter (named_steps.Step (program t defs)) (trees.Asks (program t defs)) n c choices request rest
  asks_back n c d choices rest request m (e, more, leads, is) =
      let led = leads_back n c d e choices more m leads in (led.0, more, led.1, (asks_alike each arrives t defs entry led.0 e led.2).1 more rest request is)

  none_back : (c : named.Config) (d : Config) (choices : List Choice) → Match t defs c d
      → HasNoStep (λ r. steps.Step (resolved_program t defs entry) d choices r) (λ request left. Asks (resolved_program t defs entry) d choices request left)
      → HasNoStep (λ r. named_steps.Step (program t defs) c choices r) (λ request left. trees.Asks (program t defs) c choices request left)
  none_back c d choices m none = (
    λ r is. (let k = (alike c d choices m).forth r is in none.0 k.0 k.1),
    λ waits. none.1 (record { request = waits.request; left = waits.left; asks = (asks_alike each arrives t defs entry c d m).0 choices waits.left waits.request waits.asks; unanswered = waits.unanswered }),
  )

  pub runs_back : (structs : List StructInfo) (c : named.Config) (d : Config) (script : List (List ℕ)) (fuel : ℕ) (outcome : Outcome) → Match t defs c d → Runs (resolved_program t defs entry) structs d script fuel outcome
      → RunsTo (named_steps.Step (program t defs)) (trees.Asks (program t defs)) structs c script fuel outcome
  runs_back structs c d script fuel outcomes.Ended m (used, left, takes, (n, within, comes)) =
      (used, left, takes, (n, within, λ rest. comes_back n c d (used ++ rest) ended m (comes rest)))
  runs_back structs c d script fuel outcomes.Stopped m (used, left, takes, (n, within, comes)) =
      (used, left, takes, (n, within, λ rest. comes_back n c d (used ++ rest) stopped m (comes rest)))
  runs_back structs c d script fuel (outcomes.Fault kind place) m (used, left, takes, (n, within, comes)) =
      (used, left, takes, (n, within, λ rest. comes_back n c d (used ++ rest) (fault kind place) m (comes rest)))
  runs_back structs c d script fuel outcomes.FuelSpent m (used, left, takes, goes) =
      (used, left, takes, λ rest. goes_back fuel c d (used ++ rest) m (goes rest))
  runs_back structs c d script fuel (outcomes.Short k) m (used, left, takes, (number, (n, within, (request, asks, refused)))) =
      (used, left, takes, (number, (n, within, (request, λ rest. asks_back n c d (used ++ rest) rest request m (asks rest), refused))))
  runs_back structs c d script fuel (outcomes.Bad k) m (used, left, takes, (number, (n, within, (request, asks, refused)))) =
      (used, left, takes, (number, (n, within, (request, λ rest. asks_back n c d (used ++ rest) rest request m (asks rest), refused))))
  runs_back structs c d script fuel outcomes.Stuck m (used, left, takes, (n, within, none)) = (
    used,
    left,
    takes,
    (
      n,
      within,
      λ rest. (
          let is = none rest in
          let led = leads_back n c d is.0 (used ++ rest) is.1 m is.2 in
          (led.0, is.1, led.1, none_back led.0 is.0 is.1 led.2 is.3)),
    ),
  )

-- a run that steps, ends or waits wherever it comes to is never stuck
pub not_stuck : (p : named.Program) (structs : List StructInfo) (c : named.Config) (script : List (List ℕ)) (fuel : ℕ)
    → ((n : ℕ) (choices left : List Choice) (d : named.Config) → Leads (named_steps.Step p) n c choices d left
    → IsOneOf (MakesStep (named_steps.Step p) d left) (HasEnded (named_steps.Step p) d left) (Waits (trees.Asks p d left)))
    → RunsTo (named_steps.Step p) (trees.Asks p) structs c script fuel outcomes.Stuck → ⊥
not_stuck p structs c script fuel always (used, left, takes, (n, within, none)) =
    let is = none [] in
    (always n (used ++ []) is.1 is.0 is.2).some (λ made. is.3.0 made.0 made.1, λ is_ended. is.3.0 (last ended) is_ended, is.3.1)

-- ---- programs
abbrev pub EachSteps : Type 0
EachSteps = (t : Tables) (defs : List Def) (entry : List ℕ) (c : named.Config) (d : Config) (choices : List Choice) → Match t defs c d → StepAlike t defs entry c d choices

abbrev pub EachRuns : Type 0
EachRuns = (t : Tables) (defs : List Def) (entry : List ℕ) (f : FunctionTree) → called_function t entry ≡ Some f → RunAlike t defs entry f

module _ (steps_alike : EachSteps) (runs_alike : EachRuns) (each : EachAlike) (arrives : EachArrives) where
  -- what the program comes to
  pub program_runs : (unit : UnitTree) (entry : List ℕ) (defs : List Def) (script : List (List ℕ)) (fuel : ℕ) (outcome : Outcome) (f : FunctionTree)
      → called_function (tables_of unit) entry ≡ Some f → ResolvedRuns unit entry defs script fuel outcome
      → RunsTo (named_steps.Step (program_of unit defs)) (trees.Asks (program_of unit defs)) (struct_infos unit) (named_steps.start (program_of unit defs) f) script fuel outcome
  program_runs unit entry defs script fuel outcome f found resolved =
      let t : Tables = tables_of unit in
      let k = runs_alike t defs entry f found in
      let runs = subst (λ (o : Option Function). RunsFrom (resolved_program t defs entry) (struct_infos unit) script fuel outcome o) k.there resolved in
      runs_back t defs entry (λ c d choices m. steps_alike t defs entry c d choices m) each arrives (struct_infos unit) (named_steps.start (program t defs) f) (steps.start k.function) script fuel outcome k.begin runs

  -- and that it is not stuck
  pub goes_on : ProgramsStepEndOrWait → (unit : UnitTree) (entry : List ℕ) (defs : List Def) (script : List (List ℕ)) (fuel : ℕ) (outcome : Outcome)
      → IsWellTyped unit entry → ResolvedRuns unit entry defs script fuel outcome → outcome ≡ outcomes.Stuck → ⊥
  goes_on always unit entry defs script fuel outcome typed resolved stuck =
      let f = has_entry unit entry typed in
      let runs = program_runs unit entry defs script fuel outcomes.Stuck f.0 f.1 (subst (λ (o : Outcome). ResolvedRuns unit entry defs script fuel o) stuck resolved) in
      not_stuck (program_of unit defs) (struct_infos unit) (named_steps.start (program_of unit defs) f.0) script fuel (λ n choices left d leads. always unit entry defs f.0 typed f.1 n choices left d leads) runs
