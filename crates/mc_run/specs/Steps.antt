-- What comes of a step with the lines of a script.
use Rattle.std.specs.Prelude.{ℕ, List}
use Rattle.mc_flow.specs.Runs.{next, last}
use Rattle.mc_flow.specs.Heap.Choices.{Choice}
use Rattle.mc_flow.specs.declared.defs.shapes.StructInfo.{StructInfo}
use Rattle.mc_semantics.specs.Waiting.Requests.{Request, Waits}
use Rattle.mc_semantics.specs.Resolved.Configs.{Config, Result}
use Rattle.mc_run_values.specs.Values.Taking.{WithTaken, IsRefusedBehind}
use Rattle.mc_run.specs.declared.outcome.Stepped.{Stepped}
use Rattle.mc_run.specs.declared.outcome.Stepped.TheVariants.{Goes, Ends, Unanswered, Stuck}
use Rattle.mc_run.specs.Models.{final_of}

-- nothing comes of it, and it waits for no choice
abbrev pub HasNoStep : {R : Type 0} → (R → Type 0) → (Request → List Choice → Type 0) → Type 0
HasNoStep {R} Comes Asks = ((r : R) → ¬ Comes r) × (¬ Waits Asks)

-- a step that does this and asks for that, on the way from these lines to those: it leads to the configuration, ends the run,
-- asks without success, or there is none
abbrev pub IsStep : List StructInfo → (Does : List Choice → Result → Type 0)
    → (Asks : List Choice → Request → List Choice → Type 0) → List (List ℕ) → Stepped → Config → List (List ℕ)
    → Type 0
IsStep structs Does Asks old Goes c new = WithTaken structs old new (λ choices rest. Does choices (next c rest))
IsStep structs Does Asks old (Ends f) c new = WithTaken structs old new (λ choices rest. Does choices (last (final_of f)))
IsStep structs Does Asks old (Unanswered why) c new =
    (request : Request) × IsRefusedBehind structs request old why new (λ choices left. Asks choices request left)
IsStep structs Does Asks old Stuck c new =
    WithTaken structs old new (λ choices rest. HasNoStep (λ r. Does choices r) (λ request left. Asks choices request left))

-- the same of a step that takes no choice and asks for none
abbrev pub Comes : Stepped → Config → List Choice → (Result → Type 0) → Type 0
Comes Goes c choices Does = Does (next c choices)
Comes (Ends f) c choices Does = Does (last (final_of f))
Comes (Unanswered why) c choices Does = ⊥
Comes Stuck c choices Does = (r : Result) → ¬ Does r
