use Rattle.mc_run_values.proofs.TasksLemmas.Ending.{all_end, one_end}
use Rattle.mc_run_values.proofs.tasks.laws.moves_end.Goals as goal

pub returns-clause-ends : goal.returns-clause-ends
returns-clause-ends c = all_end

pub returns-clause-once : goal.returns-clause-once
returns-clause-once c = one_end
