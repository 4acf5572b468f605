use Rattle.mc_semantics.specs.Resolved.Configs.{Values, Tasks}
use Rattle.mc_semantics.specs.Resolved.Moves.{Arrives}
use Rattle.mc_run_values.specs.Tasks.Going.{tasks_of, values_of}
use Rattle.mc_run_values.proofs.TasksLemmas.Falling.{weight}
use Rattle.mc_run_values.proofs.tasks.work.Work.arrive.Given as goal

abbrev pub invariant-loop-next : goal.invariant-loop-next
invariant-loop-next l =
    (values : Values) (tasks : Tasks) → Arrives (values_of l.self) (tasks_of l.self) values tasks
    → Arrives (values_of l.initial.self) (tasks_of l.initial.self) values tasks

abbrev pub decreases-loop-next : goal.decreases-loop-next
decreases-loop-next l = weight (tasks_of l.self)
