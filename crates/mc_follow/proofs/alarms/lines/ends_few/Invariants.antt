use Rattle.std.proofs.Common.{◌≡◌, ◌≤◌, ◌+◌, drop}
use Rattle.mc_follow.specs.Alarms.Walks.{ended_by}
use Rattle.mc_follow.proofs.alarms.lines.ends_few.Given as goal

abbrev pub invariant-loop-line : goal.invariant-loop-line
invariant-loop-line l = (l.ended + ended_by (drop l.line-index l.lines) ≡ ended_by l.lines) × (l.ended ≤ 65536)
