use Rattle.std.proofs.Common.{◌≡◌, length}
use Rattle.mc_semantics.specs.Resolved.Moves.{behind_loop}
use Rattle.mc_run_values.specs.Tasks.Going.{tasks_of, values_of}
use Rattle.mc_run_values.proofs.tasks.work.Work.leave_loop.Given as goal

abbrev pub invariant-loop-task : goal.invariant-loop-task
invariant-loop-task l = behind_loop (values_of l.initial.self) (tasks_of l.initial.self) ≡ behind_loop (values_of l.self) (tasks_of l.self)

abbrev pub decreases-loop-task : goal.decreases-loop-task
decreases-loop-task l = length l.self.tasks
