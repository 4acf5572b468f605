use Rattle.std.proofs.Common.{◌≡◌, length}
use Rattle.mc_run_values.specs.Tasks.Leading.{chosen}
use Rattle.mc_run_values.specs.Tasks.Going.{branches_of, values_of}
use Rattle.mc_run_values.proofs.tasks.work.Work.decide.Given as goal

abbrev pub invariant-loop-task : goal.invariant-loop-task
invariant-loop-task l = record {
  branch : chosen l.holds (branches_of l.self) ≡ chosen l.answer (branches_of l.initial.self);
  values : values_of l.self ≡ values_of l.initial.self;
}

abbrev pub decreases-loop-task : goal.decreases-loop-task
decreases-loop-task l = length l.self.tasks
