use Rattle.std.proofs.Common.{◌≡◌, ◌++◌, drop, map}
use Rattle.std.specs.List.{AllByRecursion}
use Rattle.mc_rules_logic.specs.Unfold.Unfolded.{unfolded}
use Rattle.mc_apply_unfold.specs.Taking.{TakesRule}
use Rattle.mc_apply_unfold.proofs.forward.by_each_rule.Given as goal

abbrev pub invariant-loop-rule : goal.invariant-loop-rule
invariant-loop-rule l =
    (l.next.items ++ map (unfolded l.s l.edge l.at l.args) (drop l.rule-index l.rules) ≡ map (unfolded l.s l.edge l.at l.args) l.rules)
    × AllByRecursion (TakesRule l.s l.at l.args) (drop l.rule-index l.rules)
