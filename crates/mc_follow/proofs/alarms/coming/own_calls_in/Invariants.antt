use Rattle.std.proofs.Common.{◌≡◌, ◌+◌, drop}
use Rattle.mc_follow.specs.Alarms.Tracks.{own_calls_in}
use Rattle.mc_follow.proofs.alarms.coming.own_calls_in.Given as goal

abbrev pub invariant-loop-rule : goal.invariant-loop-rule
invariant-loop-rule l = l.count + own_calls_in l.pred (drop l.rule-index l.rules) ≡ own_calls_in l.pred l.rules
