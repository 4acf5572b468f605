use Rattle.std.proofs.Common.{◌≡◌, drop}
use Rattle.std.specs.List.{list_all}
use Rattle.mc_state.specs.Back.{is_back_call}
use Rattle.mc_apply_unfold.proofs.positions.is_back_rule.Given as goal

abbrev pub invariant-loop-call : goal.invariant-loop-call
invariant-loop-call l =
    list_all (is_back_call l.pred l.position) (drop l.call-index l.rule.calls) ≡ list_all (is_back_call l.pred l.position) l.rule.calls
