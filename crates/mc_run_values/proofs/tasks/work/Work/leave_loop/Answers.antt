use Rattle.std.proofs.Common.{◌∙◌}
use Rattle.mc_run_values.proofs.TasksLemmas.Rows.{behind_passes}
use Rattle.mc_run_values.proofs.tasks.work.Work.leave_loop.Goals as goal

pub loop-task-preserved-in-Perform : goal.loop-task-preserved-in-Perform
loop-task-preserved-in-Perform c =
    c.loop-task.invariant ∙ behind_passes c.loop-task.self.values.items c.loop-task.self.tasks c.pop.new.self c.in-Some.task c.in-Perform.field-0 c.in-Perform.field-1 c.in-Some.ensures c.in-Perform.is
