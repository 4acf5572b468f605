-- A step that uses a value.
use Rattle.std.proofs.Common.{◌≡◌, ◌⊎◌, inl, inr, ◌++◌, ℕ, ℤ, List, [], Option, refl, sym, subst, append_assoc}
use Rattle.mc_base.specs.declared.plain.FaultKind.{FaultKind}
use Rattle.mc_flow.specs.Runs.{next, last}
use Rattle.mc_base.specs.declared.text.place.Place.{Place}
use Rattle.mc_flow.specs.Heap.Choices.{Choice}
use Rattle.mc_flow.specs.declared.defs.shapes.StructInfo.{StructInfo}
use Rattle.mc_semantics.specs.Values.{Evaluated, fault_of, value_of}
use Rattle.mc_semantics.specs.Waiting.Requests.{Request, Waits, an_input, IsUnanswered}
use Rattle.mc_semantics.specs.Resolved.Programs.{Expr}
use Rattle.mc_semantics.specs.Resolved.Configs.{Config, Result}
use Rattle.mc_semantics.specs.Resolved.Steps.{AfterValue, Here, WithValue}
use Rattle.mc_semantics.specs.Resolved.Values.{Evaluates}
use Rattle.mc_run_values.specs.declared.values.refusal.Refusal.{Refusal}
use Rattle.mc_run_values.specs.declared.values.refusal.Evaluated.TheVariants as one
use Rattle.mc_run_values.specs.Values.Asking.{AsksBehind, ValueAsks}
use Rattle.mc_run_values.specs.Values.Models.{IsEvaluated}
use Rattle.mc_run_values.proofs.ValuesLemmas.Taking.{takes_more}
use Rattle.mc_run.specs.declared.outcome.End.TheVariants as ends
use Rattle.mc_run.specs.declared.outcome.Stepped.{Stepped}
use Rattle.mc_run.specs.declared.outcome.Stepped.TheVariants as steps
use Rattle.mc_run.specs.Asking.{AsksInput}
use Rattle.mc_run.specs.Models.{final_of}
use Rattle.mc_run.specs.Steps.{Comes, HasNoStep, IsStep}
use Rattle.mc_semantics.proofs.ResolvedLemmas.Values.{one_value}
use Rattle.mc_run.proofs.Alone.{value_alone}

pub unanswered_by : (request wanted : Request) (left : List Choice) → request ≡ wanted → IsUnanswered request left → IsUnanswered wanted left
unanswered_by request wanted left e w = (let P : Request → Type 0 = λ q. IsUnanswered q left in subst P e w)

-- a step that takes no choice and asks for none takes no line
pub takes_none : (structs : List StructInfo) (Does : List Choice → Result → Type 0) (Asks : List Choice → Request → List Choice → Type 0) (stepped : Stepped) (c : Config) (lines : List (List ℕ))
    → ((choices left : List Choice) (request : Request) → Asks choices request left → ⊥) → ((choices : List Choice) → Comes stepped c choices (λ r. Does choices r)) → IsStep structs Does Asks lines stepped c lines
takes_none structs Does Asks steps.Goes c lines never h = ([], refl, λ rest. h rest)
takes_none structs Does Asks (steps.Ends f) c lines never h = ([], refl, λ rest. h rest)
takes_none structs Does Asks (steps.Unanswered why) c lines never h = absurd (h [])
takes_none structs Does Asks steps.Stuck c lines never h = ([], refl, λ rest. (h rest, λ w. never rest w.left w.request w.asks))

-- the expression faults
pub value_faults : (structs : List StructInfo) (h : Here) (e : Expr) (place : Place) (go : Option ℤ → List Choice → Result → Type 0) (kind : FaultKind) (c : Config) (old new : List (List ℕ))
    → IsEvaluated structs h.values h.heap e old (one.Fault kind) new
    → IsStep structs (λ choices r. WithValue h e place choices go r) (λ choices request left. AsksInput h e choices request left) old (steps.Ends (ends.Fault kind place)) c new
value_faults structs h e place go kind c old new i = (i.0, i.1, λ rest. (fault_of kind, i.2 rest, refl))

-- it asks without success
pub value_refused : (structs : List StructInfo) (h : Here) (e : Expr) (place : Place) (go : Option ℤ → List Choice → Result → Type 0) (why : Refusal) (c : Config) (old new : List (List ℕ))
    → IsEvaluated structs h.values h.heap e old (one.Unanswered why) new
    → IsStep structs (λ choices r. WithValue h e place choices go r) (λ choices request left. AsksInput h e choices request left) old (steps.Unanswered why) c new
value_refused structs h e place go why c old new i =
    (an_input, (i.0, (i.1.0, i.1.1, λ rest. (refl, i.1.2 rest)), i.2))

-- what comes of a step that goes on with a value
behind_value : (h : Here) (e : Expr) (place : Place) (choices : List Choice) (go : Option ℤ → List Choice → Result → Type 0) (r : Result) (v : Option ℤ) (rest : List Choice)
    → WithValue h e place choices go r → Evaluates h.values h.heap e choices (value_of v rest) → go v rest r
behind_value h e place choices go r v rest is comes =
    let P : Evaluated → Type 0 = λ x. AfterValue place go x r in
    subst P (one_value h.values h.heap e choices is.0 (value_of v rest) is.1 comes) is.2

-- it has a value, with which no choice is taken
pub value_used : (structs : List StructInfo) (h : Here) (e : Expr) (place : Place) (go : Option ℤ → List Choice → Result → Type 0) (v : Option ℤ) (stepped : Stepped) (c : Config) (old new : List (List ℕ))
    → IsEvaluated structs h.values h.heap e old (one.Value v) new → ((choices : List Choice) → Comes stepped c choices (λ r. go v choices r))
    → IsStep structs (λ choices r. WithValue h e place choices go r) (λ choices request left. AsksInput h e choices request left) old stepped c new
value_used structs h e place go v steps.Goes c old new i f = (i.0, i.1, λ rest. (value_of v rest, i.2 rest, f rest))
value_used structs h e place go v (steps.Ends z) c old new i f = (i.0, i.1, λ rest. (value_of v rest, i.2 rest, f rest))
value_used structs h e place go v (steps.Unanswered why) c old new i f = absurd (f [])
value_used structs h e place go v steps.Stuck c old new i f = (
  i.0,
  i.1,
  λ rest. (
    λ r is. f rest r (behind_value h e place (i.0 ++ rest) go r v rest is (i.2 rest)),
    λ w. value_alone h e (i.0 ++ rest) w.left (value_of v rest) (unanswered_by w.request an_input w.left w.asks.0 w.unanswered) (i.2 rest) w.asks.1,
  ),
)

-- ---- a step that goes on with a value and then takes choices
-- what asks after a value
abbrev pub AsksAt : (List Choice → Type 0) → Evaluated → Type 0
AsksAt Asks (fault_of kind) = ⊥
AsksAt Asks (value_of v rest) = Asks rest

abbrev pub AsksThen : Here → Expr → (List Choice → List Choice → Type 0) → List Choice → Request → List Choice → Type 0
AsksThen h e Asks choices request left =
    (request ≡ an_input) × (ValueAsks h.values h.heap e choices left ⊎ AsksBehind h.values h.heap e choices (λ rest. Asks rest left))

asks_on : (h : Here) (e : Expr) (Asks : List Choice → List Choice → Type 0) (choices rest left : List Choice) (v : Option ℤ) → Evaluates h.values h.heap e choices (value_of v rest)
    → AsksBehind h.values h.heap e choices (λ more. Asks more left) → Asks rest left
asks_on h e Asks choices rest left v is asks =
    let P : Evaluated → Type 0 = λ x. AsksAt (λ more. Asks more left) x in
    subst P (one_value h.values h.heap e choices (value_of asks.0 asks.1) (value_of v rest) asks.2 is) asks.3

no_step : (h : Here) (e : Expr) (place : Place) (go : Option ℤ → List Choice → Result → Type 0) (Asks : List Choice → List Choice → Type 0) (v : Option ℤ) (choices rest : List Choice)
    → Evaluates h.values h.heap e choices (value_of v rest) → HasNoStep (λ r. go v rest r) (λ request left. (request ≡ an_input) × Asks rest left)
    → HasNoStep (λ r. WithValue h e place choices go r) (λ request left. AsksThen h e Asks choices request left)
no_step h e place go Asks v choices rest is none = (λ r does. none.0 r (behind_value h e place choices go r v rest does is), λ w. waits w w.asks.1)
  where
    waits : (w : Waits (λ request left. AsksThen h e Asks choices request left)) → ValueAsks h.values h.heap e choices w.left ⊎ AsksBehind h.values h.heap e choices (λ more. Asks more w.left) → ⊥
    waits w (inl asks) = value_alone h e choices w.left (value_of v rest) (unanswered_by w.request an_input w.left w.asks.0 w.unanswered) is asks
    waits w (inr asks) =
        none.1 (record { request = w.request; left = w.left; asks = (w.asks.0, asks_on h e Asks choices rest w.left v is asks); unanswered = w.unanswered })

pub value_then : (structs : List StructInfo) (h : Here) (e : Expr) (place : Place) (go : Option ℤ → List Choice → Result → Type 0) (Asks : List Choice → List Choice → Type 0) (v : Option ℤ) (stepped : Stepped) (c : Config) (old middle new : List (List ℕ))
    → IsEvaluated structs h.values h.heap e old (one.Value v) middle → IsStep structs (λ choices r. go v choices r) (λ choices request left. (request ≡ an_input) × Asks choices left) middle stepped c new
    → IsStep structs (λ choices r. WithValue h e place choices go r) (λ choices request left. AsksThen h e Asks choices request left) old stepped c new
value_then structs h e place go Asks v steps.Goes c old middle new i g = (
  i.0 ++ g.0,
  takes_more structs old middle new i.0 g.0 i.1 g.1,
  λ rest. subst (λ (cs : List Choice). WithValue h e place cs go (next c rest)) (sym (append_assoc i.0 g.0 rest)) (value_of v (g.0 ++ rest), i.2 (g.0 ++ rest), g.2 rest),
)
value_then structs h e place go Asks v (steps.Ends f) c old middle new i g = (
  i.0 ++ g.0,
  takes_more structs old middle new i.0 g.0 i.1 g.1,
  λ rest. subst (λ (cs : List Choice). WithValue h e place cs go (last (final_of f))) (sym (append_assoc i.0 g.0 rest)) (value_of v (g.0 ++ rest), i.2 (g.0 ++ rest), g.2 rest),
)
value_then structs h e place go Asks v (steps.Unanswered why) c old middle new i (request, (more, (used, taken, asks), refused)) = (
  request,
  (
    more,
    (
      i.0 ++ used,
      takes_more structs old middle more i.0 used i.1 taken,
      λ rest. subst (λ (cs : List Choice). AsksThen h e Asks cs request rest) (sym (append_assoc i.0 used rest)) ((asks rest).0, inr (v, used ++ rest, i.2 (used ++ rest), (asks rest).1)),
    ),
    refused,
  ),
)
value_then structs h e place go Asks v steps.Stuck c old middle new i g = (
  i.0 ++ g.0,
  takes_more structs old middle new i.0 g.0 i.1 g.1,
  λ rest. subst (λ (cs : List Choice). HasNoStep (λ r. WithValue h e place cs go r) (λ request left. AsksThen h e Asks cs request left)) (sym (append_assoc i.0 g.0 rest))
      (no_step h e place go Asks v (i.0 ++ (g.0 ++ rest)) (g.0 ++ rest) (i.2 (g.0 ++ rest)) (g.2 rest)),
)

pub then_faults : (structs : List StructInfo) (h : Here) (e : Expr) (place : Place) (go : Option ℤ → List Choice → Result → Type 0) (Asks : List Choice → List Choice → Type 0) (kind : FaultKind) (c : Config) (old new : List (List ℕ))
    → IsEvaluated structs h.values h.heap e old (one.Fault kind) new
    → IsStep structs (λ choices r. WithValue h e place choices go r) (λ choices request left. AsksThen h e Asks choices request left) old (steps.Ends (ends.Fault kind place)) c new
then_faults structs h e place go Asks kind c old new i = (i.0, i.1, λ rest. (fault_of kind, i.2 rest, refl))

pub then_refused : (structs : List StructInfo) (h : Here) (e : Expr) (place : Place) (go : Option ℤ → List Choice → Result → Type 0) (Asks : List Choice → List Choice → Type 0) (why : Refusal) (c : Config) (old new : List (List ℕ))
    → IsEvaluated structs h.values h.heap e old (one.Unanswered why) new
    → IsStep structs (λ choices r. WithValue h e place choices go r) (λ choices request left. AsksThen h e Asks choices request left) old (steps.Unanswered why) c new
then_refused structs h e place go Asks why c old new i =
    (an_input, (i.0, (i.1.0, i.1.1, λ rest. (refl, inl (i.1.2 rest))), i.2))
