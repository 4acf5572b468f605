use Rattle.std.proofs.Common.{◌≡◌, take}
use Rattle.mc_shape_search.specs.Sat.Marks.{taken}
use Rattle.mc_shape_search.proofs.sat.search.taken.Given as goal

abbrev pub invariant-loop-mark : goal.invariant-loop-mark
invariant-loop-mark l = l.all.items ≡ taken (take l.mark-index l.log)
