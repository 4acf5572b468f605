use Rattle.std.proofs.Common.{◌≡◌, map, take}
use Rattle.mc_base.specs.Nodes.{moved}
use Rattle.mc_pure_ops.specs.Renaming.Images.{image}
use Rattle.mc_pure_ops.specs.Renamed.Renamed.{with_starts}
use Rattle.mc_pure_ops.proofs.renamed.put_starts.Given as goal

abbrev pub invariant-loop-at : goal.invariant-loop-at
invariant-loop-at l = l.renamed ≡ with_starts l.initial.renamed (map (moved (image l.renaming)) (take l.at-index l.at-items))
