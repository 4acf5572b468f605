use Rattle.std.proofs.Common.{◌≡◌, true, false, refl, arith}
use Rattle.mc_base.specs.declared.ids.NodeId.{NodeId}
use Rattle.mc_pure_ops.specs.Renaming.Images.{image}
use Rattle.mc_joins.specs.Alike.Alike.{way_back, Goes}
use Rattle.mc_state.proofs.Lists.{each_here, each_more, each_all}
use Rattle.mc_joins.proofs.alike.nodes.all_come.Goals as goal

pub returns-then-not-comes : goal.returns-then-not-comes
returns-then-not-comes c =
    let ys = c.nodes-node-items.result.now in (
      λ t. let w : false ≡ true = t in absurd (cc w),
      λ all. let w = c.if-not-comes.ensures.1 (each_here (λ (n : NodeId). Goes (way_back (image c.args.renaming.now) c.args.state.now) (image c.args.renaming.now) c.args.other.now.kinds c.args.state.now.kinds n) ys _ c.nodes-node-items.ensures c.loop-node.node-index _ (omega arith) all) in absurd (cc w),
    )

pub loop-node-preserved : goal.loop-node-preserved
loop-node-preserved c =
    let ys = c.nodes-node-items.result.now in
    each_more (λ (n : NodeId). Goes (way_back (image c.args.renaming.now) c.args.state.now) (image c.args.renaming.now) c.args.other.now.kinds c.args.state.now.kinds n) ys _ c.nodes-node-items.ensures c.loop-node.node-index _ (omega arith) c.loop-node.invariant (c.if-not-comes.ensures.0 refl)

pub returns : goal.returns
returns c =
    let ys = c.nodes-node-items.result.now in
    (λ t. each_all (λ (n : NodeId). Goes (way_back (image c.args.renaming.now) c.args.state.now) (image c.args.renaming.now) c.args.other.now.kinds c.args.state.now.kinds n) ys _ c.nodes-node-items.ensures c.loop-node.node-index (omega arith) c.loop-node.invariant, λ all. refl)
