use Rattle.std.proofs.Common.{◌≡◌, ◌++◌, drop}
use Rattle.mc_cover.specs.First.{taken}
use Rattle.mc_replay.proofs.covers.taken.Given as goal

abbrev pub invariant-loop-mark : goal.invariant-loop-mark
invariant-loop-mark l = taken l.marks ≡ l.list.items ++ taken (drop l.mark-index l.marks)
