use Rattle.std.proofs.Common.{[]}
use Rattle.mc_pure_ops.specs.Canon.Order.{Added}
use Rattle.mc_pure_ops.specs.Canon.Left.{IsClassLeft, OfNode}
use Rattle.mc_pure_ops.proofs.CanonLemmas.Lists.{Upto}
use Rattle.mc_pure_ops.proofs.canon.left.equalities.Given as goal

abbrev pub invariant-loop-node : goal.invariant-loop-node
invariant-loop-node l = Added (Upto (OfNode (IsClassLeft l.pure l.left.lost)) l.node-items l.node-index) [] l.list.items
