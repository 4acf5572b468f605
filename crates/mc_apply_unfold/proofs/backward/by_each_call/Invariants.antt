use Rattle.std.proofs.Common.{◌≡◌, ◌++◌, drop, map}
use Rattle.std.specs.List.{AllByRecursion, flat_map}
use Rattle.mc_rules_logic.specs.Back.Unfolded.{back_successors, unfolded_back}
use Rattle.mc_rules_logic.specs.Unfold.Unfolded.{own_places}
use Rattle.mc_apply_unfold.specs.Taking.{TakesRuleBack, parts}
use Rattle.mc_apply_unfold.proofs.backward.by_each_call.Given as goal

abbrev pub invariant-loop-rule : goal.invariant-loop-rule
invariant-loop-rule l =
    (l.next.items ++ flat_map (λ rule. map (unfolded_back l.s l.edge l.seg.at l.seg.args.now l.seg.pred l.seg.stop l.seg.ends.now rule) (own_places l.seg.pred 0 rule.calls)) (drop l.rule-index l.rules)
    ≡ back_successors l.s l.edge l.seg.at l.seg.args.now l.seg.pred l.seg.stop l.seg.ends.now l.rules)
    × AllByRecursion (TakesRuleBack l.s (parts l.seg.at l.seg.args.now l.seg.pred l.seg.stop l.seg.ends.now)) (drop l.rule-index l.rules)
