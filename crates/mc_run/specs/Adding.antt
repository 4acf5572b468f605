-- What comes of a shape that a script gives.
use Rattle.std.specs.Prelude.{◌≡◌, ℕ, ℤ, List, Some}
use Rattle.mc_base.specs.declared.ids.PredId.{PredId}
use Rattle.mc_flow.specs.Heap.Adding.{with_blocks}
use Rattle.mc_flow.specs.Heap.Choices.{shape}
use Rattle.mc_flow.specs.Heap.Heap.{Block}
use Rattle.mc_flow.specs.declared.defs.rules.Def.{Def}
use Rattle.mc_semantics.specs.Waiting.Requests.{a_shape, IsAllowed}
use Rattle.mc_semantics.specs.Resolved.Configs.{Config, with_variable}
use Rattle.mc_run_values.specs.declared.values.refusal.Refusal.TheVariants.{NotAllowed}
use Rattle.mc_run.specs.declared.outcome.Stepped.{Stepped}
use Rattle.mc_run.specs.declared.outcome.Stepped.TheVariants.{Goes, Ends, Unanswered, Stuck}

-- where it is allowed, its blocks come into the heap and its value into the variable; else it is refused
abbrev pub IsAdded : List Def → PredId → List ℤ → (variable : ℕ) → Config → ℤ → List (ℕ × Block) → Stepped → Config → Type 0
IsAdded defs predicate args variable before v blocks Goes after =
    IsAllowed (a_shape defs predicate args before.heap) (shape v blocks)
    × (after ≡ record {
      tasks = before.tasks;
      values = with_variable before.values variable (Some v);
      heap = with_blocks before.heap blocks;
    })
IsAdded defs predicate args variable before v blocks (Unanswered why) after =
    (why ≡ NotAllowed) × (¬ IsAllowed (a_shape defs predicate args before.heap) (shape v blocks))
IsAdded defs predicate args variable before v blocks (Ends f) after = ⊥
IsAdded defs predicate args variable before v blocks Stuck after = ⊥
