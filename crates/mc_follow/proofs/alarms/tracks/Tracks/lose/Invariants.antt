use Rattle.std.proofs.Common.{◌≡◌, ◌++◌, None, replicate}
use Rattle.mc_follow.specs.Alarms.Tracks.{in_order}
use Rattle.mc_follow.proofs.alarms.tracks.Tracks.lose.Given as goal

abbrev pub invariant-loop : goal.invariant-loop
invariant-loop l = in_order l.self-inside.items.items ≡ replicate l.counter None ++ l.fn.self
