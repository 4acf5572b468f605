use Rattle.std.proofs.Common.{◌≡◌, ◌+◌, ◌≤◌, drop}
use Rattle.mc_follow.specs.Alarms.Tracks.{own_calls}
use Rattle.mc_follow.proofs.alarms.coming.own_calls.Given as goal

abbrev pub invariant-loop-call : goal.invariant-loop-call
invariant-loop-call l = (l.count + own_calls l.pred (drop l.call-index l.calls) ≡ own_calls l.pred l.calls) × (l.count ≤ l.call-index)
