use Rattle.mc_pure_ops.specs.Renaming.Images.{image}
use Rattle.mc_pure_ops.specs.Renamed.Renamed.{HasFirst}
use Rattle.mc_pure_ops.proofs.renamed.have_one_kind.Given as goal

abbrev pub invariant-loop-node : goal.invariant-loop-node
invariant-loop-node l = HasFirst (image l.renaming) l.pure.kinds l.node-items l.node-index l.images
