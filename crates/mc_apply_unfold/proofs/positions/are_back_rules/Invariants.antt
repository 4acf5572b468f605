use Rattle.std.proofs.Common.{◌≡◌, drop}
use Rattle.std.specs.List.{list_all}
use Rattle.mc_state.specs.Back.{is_back_call}
use Rattle.mc_apply_unfold.proofs.positions.are_back_rules.Given as goal

abbrev pub invariant-loop-rule : goal.invariant-loop-rule
invariant-loop-rule l =
    list_all (λ rule. list_all (is_back_call l.pred l.position) rule.calls) (drop l.rule-index l.rules)
    ≡ list_all (λ rule. list_all (is_back_call l.pred l.position) rule.calls) l.rules
