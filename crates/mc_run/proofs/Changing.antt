-- A step that ends with a change.
use Rattle.std.proofs.Common.{◌≡◌, ◌∙◌, ap, ap₂, sym, subst, ℕ, ℤ, List, Option, Result, Ok, Err}
use Rattle.mc_base.specs.declared.plain.FaultKind.{FaultKind}
use Rattle.mc_base.specs.declared.text.place.Place.{Place}
use Rattle.mc_flow.specs.Heap.Choices.{Choice}
use Rattle.mc_flow.specs.declared.defs.shapes.StructInfo.{StructInfo}
use Rattle.mc_semantics.specs.Resolved.Programs.{Expr}
use Rattle.mc_run_values.specs.declared.values.refusal.Evaluated.TheVariants as one
use Rattle.mc_run_values.specs.Values.Models.{IsEvaluated}
use Rattle.mc_run.specs.Asking.{AsksInput}
use Rattle.mc_run.proofs.Using.{value_used}
use Rattle.mc_flow.specs.Heap.Heap.{Heap}
use Rattle.mc_semantics.specs.Resolved.Configs.{Config, Tasks, Values}
use Rattle.mc_semantics.specs.Resolved.Values.{Changed}
use Rattle.mc_semantics.specs.Resolved.Steps.{after, WithValue}
use Rattle.mc_run_values.specs.Values.Models.{change_of}
use Rattle.mc_run.specs.declared.outcome.Stepped.{Stepped}
use Rattle.mc_run_values.specs.Tasks.Going.{tasks_of, values_of}
use Rattle.mc_run_values.specs.declared.tasks.work.Work.{Work}
use Rattle.mc_run.specs.Models.{settled_of}
use Rattle.mc_run.specs.Steps.{Comes, IsStep}

abbrev pub at_config : Tasks → Values → Heap → Config
at_config tasks values heap = record { tasks = tasks; values = values; heap = heap }

settled_so : (change : Result Unit FaultKind) (place : Place) (tasks : Tasks) (values : Values) (heap : Heap) (made : Changed) → change_of change values heap ≡ made
    → (choices : List Choice) → Comes (settled_of change place) (record { tasks = tasks; values = values; heap = heap }) choices (λ r. r ≡ after tasks place choices made)
settled_so (Ok done) place tasks values heap made is choices = ap (λ (x : Changed). after tasks place choices x) is
settled_so (Err kind) place tasks values heap made is choices = ap (λ (x : Changed). after tasks place choices x) is

-- the change is this, of what was there before
pub settles : (stepped : Stepped) (change : Result Unit FaultKind) (place : Place) (tasks left : Tasks) (values : Values) (heap : Heap) (made : Changed) → stepped ≡ settled_of change place → left ≡ tasks
    → change_of change values heap ≡ made
    → (choices : List Choice) → Comes stepped (record { tasks = left; values = values; heap = heap }) choices (λ r. r ≡ after tasks place choices made)
settles stepped change place tasks left values heap made is same so choices =
    let P : Stepped → Type 0 = λ s. Comes s (record { tasks = left; values = values; heap = heap }) choices (λ r. r ≡ after tasks place choices made) in
    let Q : Tasks → Type 0 = λ t. Comes (settled_of change place) (record { tasks = t; values = values; heap = heap }) choices (λ r. r ≡ after tasks place choices made) in
    subst P (sym is) (subst Q (sym same) (settled_so change place tasks values heap made so choices))

-- an expression has a value, and with it something changes; nothing else has changed in between
pub value_changes : (structs : List StructInfo) (t0 t1 t2 : Tasks) (v0 v1 v2 : Values) (h0 h1 h2 : Heap) (e : Expr) (place : Place) (make : Values → Heap → Option ℤ → Changed) (v : Option ℤ)
    (stepped : Stepped) (change : Result Unit FaultKind) (old new : List (List ℕ)) → IsEvaluated structs v0 h0 e old (one.Value v) new
    → at_config t1 v1 h1 ≡ at_config t0 v0 h0 → stepped ≡ settled_of change place → t2 ≡ t1 → change_of change v2 h2 ≡ make v1 h1 v
    → IsStep structs (λ choices r. WithValue (record { values = v0; heap = h0 }) e place choices (λ w left other. other ≡ after t0 place left (make v0 h0 w)) r)
    (λ choices request left. AsksInput (record { values = v0; heap = h0 }) e choices request left) old stepped (record { tasks = t2; values = v2; heap = h2 }) new
value_changes structs t0 t1 t2 v0 v1 v2 h0 h1 h2 e place make v stepped change old new i kept is same so =
    value_used structs (record { values = v0; heap = h0 }) e place (λ w left other. other ≡ after t0 place left (make v0 h0 w)) v stepped (record { tasks = t2; values = v2; heap = h2 }) old new i (
    settles stepped change place t0 t2 v2 h2 (make v0 h0 v) is (same ∙ ap (λ (k : Config). k.tasks) kept) (so ∙ ap (λ (k : Config). make k.values k.heap v) kept)
    )

pub same_config : (w v : Work) (heap other : Heap) → w ≡ v → heap ≡ other → at_config (tasks_of w) (values_of w) heap ≡ at_config (tasks_of v) (values_of v) other
same_config w v heap other is same = ap₂ (λ (x : Work) (h : Heap). at_config (tasks_of x) (values_of x) h) is same
