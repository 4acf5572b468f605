use Rattle.std.proofs.Common.{length}
use Rattle.mc_app.proofs.Shown.{SoFar}
use Rattle.mc_app.proofs.tried.shown.Given as goal

abbrev pub invariant-loop-line : goal.invariant-loop-line
invariant-loop-line l = SoFar l.report l.found l.text.items l.rest

abbrev pub decreases-loop-line : goal.decreases-loop-line
decreases-loop-line l = length l.rest
