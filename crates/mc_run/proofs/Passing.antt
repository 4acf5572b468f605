-- A step that evaluates and passes the arguments of a call.
use Rattle.std.proofs.Common.{◌≡◌, ◌++◌, ℕ, ℤ, List, [], Option, refl, subst}
use Rattle.mc_base.specs.declared.plain.FaultKind.{FaultKind}
use Rattle.mc_base.specs.declared.text.place.Place.{Place}
use Rattle.mc_flow.specs.Heap.Choices.{Choice}
use Rattle.mc_flow.specs.Heap.Heap.{Heap}
use Rattle.mc_flow.specs.declared.defs.shapes.StructInfo.{StructInfo}
use Rattle.mc_semantics.specs.Steps.{Arguments, no_arguments, arguments}
use Rattle.mc_semantics.specs.Waiting.Requests.{Request, an_input}
use Rattle.mc_semantics.specs.Resolved.Programs.{Call, Program}
use Rattle.mc_semantics.specs.Resolved.Configs.{Config, Result, Target, Tasks, Values}
use Rattle.mc_semantics.specs.Resolved.Steps.{Here, AfterArguments, Passes}
use Rattle.std.specs.Prelude.{slice_get}
use Rattle.mc_run_values.specs.declared.values.refusal.Refusal.{Refusal}
use Rattle.mc_run_values.specs.declared.values.refusal.Arguments.TheVariants as all
use Rattle.mc_run_values.specs.Values.Asking.{ArgumentsAsk}
use Rattle.mc_run_values.specs.Values.Models.{AreEvaluated}
use Rattle.mc_run.specs.declared.outcome.End.TheVariants as ends
use Rattle.mc_run.specs.declared.outcome.Stepped.{Stepped}
use Rattle.mc_run.specs.declared.outcome.Stepped.TheVariants as steps
use Rattle.mc_run.specs.Steps.{Comes, IsStep}
use Rattle.mc_semantics.proofs.ResolvedLemmas.Values.{all_values}
use Rattle.mc_run.proofs.Alone.{arguments_alone}
use Rattle.mc_run.proofs.Using.{unanswered_by}
use Rattle.std.proofs.Common.{Vec, Global}

module _ (structs : List StructInfo) (p : Program) (values : Values) (heap : Heap) (call : Call) (target : Target) (place : Place) (tasks : Tasks) where
  abbrev h : Here
  h = record { values = values; heap = heap }

  abbrev Does : List Choice → Result → Type 0
  Does choices r = Passes p h call target place tasks choices r

  abbrev Asks : List Choice → Request → List Choice → Type 0
  Asks choices request left = (request ≡ an_input) × ArgumentsAsk values heap call.arguments choices left

  pub passing_faults : (kind : FaultKind) (c : Config) (old new : List (List ℕ)) → AreEvaluated structs values heap call.arguments old (all.Fault kind) new
      → IsStep structs Does Asks old (steps.Ends (ends.Fault kind place)) c new
  passing_faults kind c old new i = (i.0, i.1, λ rest. (no_arguments kind, i.2 rest, refl))

  pub passing_refused : (why : Refusal) (c : Config) (old new : List (List ℕ)) → AreEvaluated structs values heap call.arguments old (all.Unanswered why) new
      → IsStep structs Does Asks old (steps.Unanswered why) c new
  passing_refused why c old new i = (an_input, (i.0, (i.1.0, i.1.1, λ rest. (refl, i.1.2 rest)), i.2))

  abbrev Begins : List (Option ℤ) → List Choice → Result → Type 0
  Begins vs choices r = AfterArguments h (slice_get p.functions call.function) target place tasks (arguments vs choices) r

  pub passed_on : (vs : Vec (Option ℤ) Global) (stepped : Stepped) (c : Config) (old new : List (List ℕ)) → AreEvaluated structs values heap call.arguments old (all.Values vs) new
      → ((choices : List Choice) → Comes stepped c choices (λ r. Begins vs.items choices r)) → IsStep structs Does Asks old stepped c new
  passed_on vs steps.Goes c old new i f = (i.0, i.1, λ rest. (arguments vs.items rest, i.2 rest, f rest))
  passed_on vs (steps.Ends z) c old new i f = (i.0, i.1, λ rest. (arguments vs.items rest, i.2 rest, f rest))
  passed_on vs (steps.Unanswered why) c old new i f = absurd (f [])
  passed_on vs steps.Stuck c old new i f = (
    i.0,
    i.1,
    λ rest. (
      λ r is.
          let P : Arguments → Type 0 = λ x. AfterArguments h (slice_get p.functions call.function) target place tasks x r in
          f rest r (subst P (all_values h call.arguments (i.0 ++ rest) is.0 (arguments vs.items rest) is.1 (i.2 rest)) is.2),
      λ w. arguments_alone h call.arguments (i.0 ++ rest) w.left (arguments vs.items rest) (unanswered_by w.request an_input w.left w.asks.0 w.unanswered) (i.2 rest) w.asks.1,
    ),
  )
