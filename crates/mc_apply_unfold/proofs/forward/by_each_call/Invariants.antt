use Rattle.std.proofs.Common.{◌≡◌, ◌++◌, drop, map}
use Rattle.std.specs.List.{AllByRecursion, flat_map}
use Rattle.mc_rules_logic.specs.Unfold.Judges.{seg_successors}
use Rattle.mc_rules_logic.specs.Unfold.Unfolded.{unfolded_at, own_places}
use Rattle.mc_apply_unfold.specs.Taking.{TakesRuleTo, parts}
use Rattle.mc_apply_unfold.proofs.forward.by_each_call.Given as goal

abbrev pub invariant-loop-rule : goal.invariant-loop-rule
invariant-loop-rule l =
    (l.next.items ++ flat_map (λ rule. map (unfolded_at l.s l.edge l.seg.at l.seg.args.now l.seg.stop l.seg.ends.now rule) (own_places l.seg.pred 0 rule.calls)) (drop l.rule-index l.rules)
    ≡ seg_successors l.s l.edge (parts l.seg.at l.seg.args.now l.seg.pred l.seg.stop l.seg.ends.now) l.rules)
    × AllByRecursion (TakesRuleTo l.s l.seg.at l.seg.args.now l.seg.stop l.seg.ends.now) (drop l.rule-index l.rules)
