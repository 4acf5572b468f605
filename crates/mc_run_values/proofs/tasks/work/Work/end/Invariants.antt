use Rattle.std.proofs.Common.{length}
use Rattle.mc_run_values.proofs.tasks.work.Work.end.Given as goal

abbrev pub decreases-tasks : goal.decreases-tasks
decreases-tasks l = length l.self.tasks
