use Rattle.std.proofs.Common.{◌≡◌, drop}
use Rattle.mc_shape_search.specs.Sat.Names.{all_true}
use Rattle.mc_shape_search.proofs.sat.names.all_true.Given as goal

abbrev pub invariant-loop-atom : goal.invariant-loop-atom
invariant-loop-atom l = all_true l.names l.atoms ≡ all_true l.names (drop l.atom-index l.atoms)
