use Rattle.std.proofs.Common.{◌≡◌, drop}
use Rattle.mc_pure_ops.specs.Renaming.Images.{image}
use Rattle.mc_joins.specs.Alike.Alike.{origin}
use Rattle.mc_joins.proofs.alike.nodes.origin.Given as goal

abbrev pub invariant-loop-node : goal.invariant-loop-node
invariant-loop-node l = origin (image l.renaming) l.nodes l.to.0 ≡ origin (image l.renaming) (drop l.node-index l.nodes) l.to.0
