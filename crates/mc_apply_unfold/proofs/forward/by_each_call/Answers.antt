use Rattle.mc_apply_unfold.specs.Taking.{TakesRuleTo}
use Rattle.mc_apply_unfold.proofs.Items.{all_here}
use Rattle.mc_apply_unfold.proofs.forward.by_each_call.Goals as goal

pub put_each_call-requires : goal.put_each_call-requires
put_each_call-requires c =
    let seg = c.args.seg.now in
    (all_here (TakesRuleTo c.args.s.now seg.at seg.args.now seg.stop seg.ends.now) c.args.rules.now c.loop-rule.rule-index c.rule-item.result c.loop-rule-test.true c.rule-item.is c.loop-rule.invariant.1).0
