use Rattle.std.proofs.Common.{◌≡◌, take, map}
use Rattle.mc_base.specs.Nodes.{moved}
use Rattle.mc_pure_ops.specs.Renaming.Images.{image}
use Rattle.mc_joins.proofs.anew.edges.moved_nodes.Given as goal

abbrev pub invariant-loop-node : goal.invariant-loop-node
invariant-loop-node l = l.list ≡ map (moved (image l.renaming)) (take l.node-index l.nodes)
