use Rattle.std.proofs.Common.{◌≡◌, ◌++◌, Some, replicate}
use Rattle.mc_follow.specs.Alarms.Tracks.{in_order}
use Rattle.mc_follow.proofs.alarms.tracks.Tracks.repeat.Given as goal

abbrev pub invariant-loop : goal.invariant-loop
invariant-loop l = in_order l.self-inside.items.items ≡ replicate l.counter (Some l.picks) ++ l.fn.self
