use Rattle.std.proofs.Common.{◌≡◌, []}
use Rattle.mc_pure_ops.specs.Canon.Left.{IsClassLeft, OfNode}
use Rattle.mc_pure_ops.proofs.CanonLemmas.Lists.{below_none, upto_more, some_added}
use Rattle.mc_pure_ops.proofs.CanonLemmas.Taken.{listed_at}
use Rattle.mc_pure_ops.proofs.CanonLemmas.Single.{all_classes}
use Rattle.mc_pure_ops.proofs.canon.left.equalities.Goals as goal

pub class_atom-requires-clause-there : goal.class_atom-requires-clause-there
class_atom-requires-clause-there c = listed_at c.args.pure.now c.nodes-node-items.result.now c.loop-node.node-index _ c.nodes-node-items.ensures c.loop-node-test.true

pub loop-node-init : goal.loop-node-init
loop-node-init c = rw c.new-list.ensures.items (below_none _ [])

pub loop-node-preserved : goal.loop-node-preserved
loop-node-preserved c = upto_more (OfNode (IsClassLeft c.args.pure.now c.args.left.now.lost)) c.nodes-node-items.result.now c.loop-node.node-index _ _ _ _ c.loop-node-test.true c.loop-node.invariant (some_added _ c.class_atom.result _ _ c.class_atom.ensures c.in_ok-put_some.ensures)

pub returns : goal.returns
returns c = all_classes c.args.pure.now c.args.left.now.lost c.nodes-node-items.result.now c.nodes-node-items.ensures c.loop-node.node-index _ c.loop-node-test.false c.loop-node.invariant
