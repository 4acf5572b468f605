use Rattle.std.proofs.Common.{◌≡◌, ◌+◌, ◌≤◌, drop}
use Rattle.mc_follow.specs.Report.Heads.{number_at}
use Rattle.mc_follow.proofs.report.heads.number_at.Given as goal

abbrev pub invariant-loop-other : goal.invariant-loop-other
invariant-loop-other l = (l.count + number_at l.point (drop l.other-index l.points) ≡ number_at l.point l.points) × (l.count ≤ l.other-index)
