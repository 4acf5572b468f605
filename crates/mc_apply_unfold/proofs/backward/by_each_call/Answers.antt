use Rattle.mc_apply_unfold.specs.Taking.{TakesRuleBack, parts}
use Rattle.mc_apply_unfold.proofs.Items.{all_here}
use Rattle.mc_apply_unfold.proofs.backward.by_each_call.Goals as goal

pub put_each_call-requires : goal.put_each_call-requires
put_each_call-requires c =
    let seg = c.args.seg.now in
    (all_here (TakesRuleBack c.args.s.now (parts seg.at seg.args.now seg.pred seg.stop seg.ends.now)) c.args.rules.now c.loop-rule.rule-index c.rule-item.result c.loop-rule-test.true c.rule-item.is c.loop-rule.invariant.1).0
