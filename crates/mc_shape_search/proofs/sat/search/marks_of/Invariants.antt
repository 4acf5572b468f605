use Rattle.std.proofs.Common.{◌≡◌, take}
use Rattle.mc_shape_search.specs.Sat.Marks.{marks_from}
use Rattle.mc_shape_search.proofs.sat.search.marks_of.Given as goal

abbrev pub invariant-loop-place : goal.invariant-loop-place
invariant-loop-place l = l.all.items ≡ marks_from l.goal.at 0 (take l.place l.rules)
