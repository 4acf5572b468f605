use Rattle.std.proofs.Common.{sym, ◌∙◌}
use Rattle.mc_apply_fold.proofs.ForgetLemmas.Leaving.{node_skip, node_lost, node_new, node_more}
use Rattle.mc_apply_fold.proofs.forget.forgetting.others.Goals as goal

pub loop-node-preserved-in_default : goal.loop-node-preserved-in_default
loop-node-preserved-in_default c =
    node_skip c.args.pure.now.kinds c.is_kept.ensures.rise c.args.lost c.nodes-node-items.result.now c.nodes-node-items.ensures
    c.loop-node.node-index _ c.loop-node.rest c.loop-node-test.true (sym c.kind.ensures ∙ c.in_default.is) c.loop-node.invariant

pub loop-node-preserved-then-node-lost : goal.loop-node-preserved-then-node-lost
loop-node-preserved-then-node-lost c =
    node_lost c.args.pure.now.kinds c.is_kept.ensures.rise c.args.lost c.nodes-node-items.result.now c.nodes-node-items.ensures
    c.loop-node.node-index _ c.in-Some.kind c.loop-node.rest c.loop-node-test.true (sym c.kind.ensures ∙ c.in-Some.is) c.if-node-lost.true c.loop-node.invariant

pub node-requires : goal.node-requires
node-requires c =
    node_new c.args.pure.now.kinds c.is_kept.ensures.rise c.args.lost c.nodes-node-items.result.now c.nodes-node-items.ensures
    c.loop-node.node-index _ c.in-Some.kind c.loop-node.rest c.loop-node-test.true (sym c.kind.ensures ∙ c.in-Some.is) c.loop-node.invariant

pub loop-node-preserved : goal.loop-node-preserved
loop-node-preserved c =
    node_more c.args.pure.now.kinds c.is_kept.ensures.rise c.args.lost c.nodes-node-items.result.now c.nodes-node-items.ensures
    c.loop-node.node-index _ c.in-Some.kind c.loop-node.rest c.node.new.self c.loop-node-test.true (sym c.kind.ensures ∙ c.in-Some.is) c.if-node-lost.false c.loop-node.invariant c.in_ok-node.ensures.ok
