use Rattle.std.proofs.Common.{◌≡◌, length}
use Rattle.mc_semantics.specs.Resolved.Steps.{returning}
use Rattle.mc_run_values.specs.Tasks.Going.{tasks_of}
use Rattle.mc_run_values.proofs.tasks.work.Work.go_back.Given as goal

abbrev pub invariant-loop-task : goal.invariant-loop-task
invariant-loop-task l = returning (tasks_of l.initial.self) l.value ≡ returning (tasks_of l.self) l.value

abbrev pub decreases-loop-task : goal.decreases-loop-task
decreases-loop-task l = length l.self.tasks
