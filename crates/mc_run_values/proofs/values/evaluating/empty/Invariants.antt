use Rattle.std.proofs.Common.{length}
use Rattle.mc_run_values.proofs.values.evaluating.empty.Given as goal

abbrev pub decreases-items : goal.decreases-items
decreases-items l = length l.stack
