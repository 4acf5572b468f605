use Rattle.std.proofs.Common.{◌≡◌, take}
use Rattle.mc_shape_search.proofs.sat.search.goal.Given as goal

abbrev pub invariant-loop-arg : goal.invariant-loop-arg
invariant-loop-arg l = l.own ≡ take l.arg-index l.args
