use Rattle.std.proofs.Common.{◌≡◌, drop}
use Rattle.mc_shape_search.specs.Sat.Names.{all_in_kinds}
use Rattle.mc_shape_search.proofs.sat.names.all_in_kinds.Given as goal

abbrev pub invariant-loop-i : goal.invariant-loop-i
invariant-loop-i l = all_in_kinds l.kinds l.names ≡ all_in_kinds (drop l.i l.kinds) (drop l.i l.names)
