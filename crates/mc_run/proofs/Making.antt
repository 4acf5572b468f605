-- The step of what is first among the tasks.
use Rattle.std.proofs.Common.{◌≡◌, ℕ, List, sym, subst}
use Rattle.mc_base.specs.declared.text.place.Place.{Place}
use Rattle.mc_flow.specs.Heap.Choices.{Choice}
use Rattle.mc_flow.specs.Heap.Heap.{Heap}
use Rattle.mc_flow.specs.declared.defs.shapes.StructInfo.{StructInfo}
use Rattle.mc_semantics.specs.Waiting.Requests.{Request}
use Rattle.mc_semantics.specs.Resolved.Programs.{Initial, Program}
use Rattle.mc_semantics.specs.Resolved.Configs.{Config, Tasks, Values}
use Rattle.mc_semantics.specs.Resolved.Steps.{Declares, Does, Here}
use Rattle.mc_run_values.specs.Tasks.Going.{IsFirst}
use Rattle.mc_run.specs.declared.outcome.Stepped.{Stepped}
use Rattle.mc_run.specs.Asking.{MaybeRightAsks, TaskAsks}
use Rattle.mc_run.specs.Steps.{Comes, IsStep}
use Rattle.mc_run.proofs.Using.{takes_none}

module _ (structs : List StructInfo) (p : Program) (values : Values) (heap : Heap) (tasks : Tasks) (stepped : Stepped) (e : Config) (old new : List (List ℕ)) where
  abbrev pub here : Here
  here = record { values = values; heap = heap }

  abbrev pub IsMade : Tasks → Type 0
  IsMade t = IsStep structs (λ choices r. Does p here t choices r) (λ choices request left. TaskAsks p.defs values heap t choices request left) old stepped e new

  pub made_of : (wanted : Tasks) → tasks ≡ wanted → IsMade wanted → IsMade tasks
  made_of wanted is step = subst (λ (t : Tasks). IsMade t) (sym is) step

  pub made_first : (place : Place) (item : Initial) (rest : Tasks) → IsFirst place item rest tasks
      → IsStep structs (λ choices r. Declares p here item place rest choices item.value r) (λ choices request left. MaybeRightAsks values heap item.value choices request left) old stepped e new → IsMade tasks
  made_first place item rest (items, behind, others, is) step =
      let P : Tasks → Type 0 = λ t. IsStep structs (λ choices r. Declares p here item place t choices item.value r) (λ choices request left. MaybeRightAsks values heap item.value choices request left) old stepped e new in
      made_of _ is (subst P others step)

-- the step takes no choice and asks for none
module _ (structs : List StructInfo) (p : Program) (values : Values) (heap : Heap) (tasks : Tasks) (stepped : Stepped) (e : Config) (lines : List (List ℕ)) where
  abbrev pub Waits : Tasks → Type 0
  Waits t = (choices left : List Choice) (request : Request) → TaskAsks p.defs values heap t choices request left → ⊥

  abbrev pub Happens : Tasks → Type 0
  Happens t = (choices : List Choice) → Comes stepped e choices (λ r. Does p (record { values = values; heap = heap }) t choices r)

  pub made_alone : (wanted : Tasks) → tasks ≡ wanted → (Waits wanted) → Happens wanted
      → IsStep structs (λ choices r. Does p (record { values = values; heap = heap }) tasks choices r) (λ choices request left. TaskAsks p.defs values heap tasks choices request left) lines stepped e lines
  made_alone wanted is never happens =
      made_of structs p values heap tasks stepped e lines lines wanted is (takes_none structs (λ choices r. Does p (record { values = values; heap = heap }) wanted choices r) (λ choices request left. TaskAsks p.defs values heap wanted choices request left) stepped e lines never happens)
