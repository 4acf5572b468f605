use Rattle.std.proofs.Common.{◌≡◌, ◌∷◌, [], List, Ok, subst, sym}
use Rattle.std.proofs.lemmas.Result.{err_from_is_err_and}
use Rattle.mc_rules_logic.specs.Fold.Changed.{left_over}
use Rattle.mc_rules_logic.specs.Fold.ChangeJudges.{forgetting_node}
use Rattle.mc_state.specs.State.{State}
use Rattle.mc_apply_fold.proofs.ChangeLemmas.Faults.{refused}
use Rattle.mc_apply_fold.proofs.change.forgetting.ForgetNodeLogicRule.successors.Goals as goal

pub returns-in_err-premises : goal.returns-in_err-premises
returns-in_err-premises c =
    let s = c.args.state.now in
    let node = c.args.self.now.node in
    let p = err_from_is_err_and c.from_residual.result c.from_residual.ensures.1 in
    rw (p.1, p.2) (λ know left tells lists. refused (λ (done : Unit {0}). left_over s node (left node) ∷ []) (forgetting_node know (left node) node s) c.in_err-premises.field-0.0 (c.in_err-premises.ensures.told know (left node) tells))

pub returns-in-Ok : goal.returns-in-Ok
returns-in-Ok c = λ know left tells lists.
    let node = c.args.self.now.node in
    subst (λ (next : List State). forgetting_node know (left node) node c.args.state.now ≡ Ok next) (sym (c.in-Ok.ensures (left node) (lists node))) (c.in_ok-premises.ensures.told know (left node) tells)
