use Rattle.std.proofs.Common.{◌≡◌, ◌++◌, drop, take}
use Rattle.mc_replay.proofs.whole.put_vars.Given as goal

abbrev pub invariant-loop-place : goal.invariant-loop-place
invariant-loop-place l = l.out ≡ record l.fn.out { env = take l.place l.env ++ drop l.place l.fn.out.env }
