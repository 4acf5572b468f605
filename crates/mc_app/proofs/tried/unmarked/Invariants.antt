use Rattle.std.proofs.Common.{length}
use Rattle.mc_app.proofs.tried.unmarked.Given as goal

abbrev pub decreases-loop-line : goal.decreases-loop-line
decreases-loop-line l = length l.rest
