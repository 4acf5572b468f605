use Rattle.mc_rules_logic.specs.Unfold.Unfolded.{unfolded}
use Rattle.mc_apply_unfold.specs.Taking.{TakesRule}
use Rattle.mc_apply_unfold.proofs.Items.{all_here, image_put}
use Rattle.mc_apply_unfold.proofs.forward.by_each_rule.Goals as goal

pub unfolded-requires : goal.unfolded-requires
unfolded-requires c =
    (all_here (TakesRule c.args.s.now c.args.at c.args.args.now) c.args.rules.now c.loop-rule.rule-index c.rule-item.result c.loop-rule-test.true c.rule-item.is c.loop-rule.invariant.1).0

pub loop-rule-preserved : goal.loop-rule-preserved
loop-rule-preserved c =
    let rules = c.args.rules.now in
    let i = c.loop-rule.rule-index in (
      image_put (unfolded c.args.s.now c.args.edge c.args.at c.args.args.now) rules i c.rule-item.result c.loop-rule.next.items c.push.new.self.items c.in_ok-unfolded.field-0 c.loop-rule-test.true c.rule-item.is c.in_ok-push.ensures.items c.in_ok-unfolded.ensures c.loop-rule.invariant.0,
      (all_here (TakesRule c.args.s.now c.args.at c.args.args.now) rules i c.rule-item.result c.loop-rule-test.true c.rule-item.is c.loop-rule.invariant.1).1,
    )
