use Rattle.std.proofs.Common.{◌≡◌, List, Ok, subst, sym}
use Rattle.mc_rules_logic.specs.Fold.ChangeJudges.{merging_nodes}
use Rattle.mc_state.specs.State.{State}
use Rattle.mc_apply_fold.proofs.change.merging.MergeNodesLogicRule.successors.Goals as goal

pub returns-in-Ok : goal.returns-in-Ok
returns-in-Ok c = λ know left tells lists.
    let rule = c.args.self.now in
    subst (λ (next : List State). merging_nodes know rule.keep rule.gone c.args.state.now ≡ Ok next) (sym c.in-Ok.ensures) (c.in_ok-premises.ensures.told know tells)
