use Rattle.mc_pure_ops.specs.Renaming.Images.{image_of}
use Rattle.mc_pure_ops.proofs.RenamingLemmas.Adding.{Gathers, NodesBelow}
use Rattle.mc_pure_ops.proofs.renaming.Renaming.restrict.Given as goal

abbrev pub invariant-loop-node : goal.invariant-loop-node
invariant-loop-node l = Gathers (image_of l.self) (NodesBelow l.keep l.node-index) l.some
