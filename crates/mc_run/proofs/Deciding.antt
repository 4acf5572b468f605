-- Where conditions and returns lead.
use Rattle.std.proofs.Common.{◌≡◌, ap, refl, Bool, true, false, ℤ, List, Option, Some, None}
use Rattle.std.specs.Prelude.{is_some, not}
use Rattle.mc_base.specs.declared.plain.FaultKind.TheVariants.{Uninit}
use Rattle.mc_flow.specs.Runs.{next, last, fault}
use Rattle.mc_base.specs.declared.text.place.Place.{Place}
use Rattle.mc_flow.specs.Heap.Choices.{Choice}
use Rattle.mc_flow.specs.Heap.Heap.{Heap}
use Rattle.mc_semantics.specs.Resolved.Configs.{Branch, Tasks, Values}
use Rattle.mc_semantics.specs.Resolved.Steps.{Here, decided, gone_back, led, returned_value, returning}
use Rattle.mc_run_values.specs.Tasks.Left.{Branches}
use Rattle.mc_run_values.specs.Tasks.Leading.{chosen}
use Rattle.mc_run.proofs.Changing.{at_config}

pub decides : (h : Here) (branches : Branches) (choices : List Choice) (answer : Bool) (to : Branch) → to ≡ chosen answer branches → led h to choices ≡ decided h branches.0 branches.1 choices answer
decides h branches choices true to is = ap (λ (b : Branch). led h b choices) is
decides h branches choices false to is = ap (λ (b : Branch). led h b choices) is

pub goes_back : (tasks left : Tasks) (values : Values) (heap : Heap) (v : Option ℤ) (choices : List Choice) → (values, left) ≡ returning tasks v → next (at_config left values heap) choices ≡ gone_back heap tasks v choices
goes_back tasks left values heap v choices is = ap (λ (p : Values × Tasks). next (at_config p.1 p.0 heap) choices) is

pub returns_none : (heap : Heap) (tasks : Tasks) (place : Place) (choices : List Choice) (v : Option ℤ) (b : Bool) → is_some v ≡ not b → b ≡ true → last (fault Uninit place) ≡ returned_value heap tasks place choices v
returns_none heap tasks place choices None b is e = refl
returns_none heap tasks place choices (Some v) true is e = cc
returns_none heap tasks place choices (Some v) false is e = cc

pub returns_some : (heap : Heap) (tasks left : Tasks) (values : Values) (place : Place) (choices : List Choice) (v : Option ℤ) (b : Bool) → is_some v ≡ not b → b ≡ false → (values, left) ≡ returning tasks v
    → next (at_config left values heap) choices ≡ returned_value heap tasks place choices v
returns_some heap tasks left values place choices None true is e back = cc
returns_some heap tasks left values place choices None false is e back = cc
returns_some heap tasks left values place choices (Some v) b is e back = goes_back tasks left values heap (Some v) choices back
