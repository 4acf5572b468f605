use Rattle.std.proofs.Common.{◌≡◌, ◌∷◌, [], Ok, subst, sym}
use Rattle.std.proofs.lemmas.Result.{err_from_is_err_and}
use Rattle.mc_rules_logic.specs.Fold.Changed.{left_over}
use Rattle.mc_rules_logic.specs.Fold.ChangeJudges.{forgetting_node}
use Rattle.mc_state.specs.State.{State}
use Rattle.mc_apply_fold.proofs.ChangeLemmas.Faults.{unchanged}
use Rattle.mc_apply_fold.proofs.change.forgetting.forget_node.Goals as goal

pub returns-in_err-premises : goal.returns-in_err-premises
returns-in_err-premises c =
    let s = c.args.s.now in
    let node = c.args.node in
    let p = err_from_is_err_and c.from_residual.result c.from_residual.ensures.1 in
    rw (p.1, p.2) (λ know atoms tells list. unchanged (λ (done : Unit {0}). left_over s node atoms ∷ []) (forgetting_node know atoms node s) (s ∷ []) c.in_err-premises.field-0.0 (c.in_err-premises.ensures.told know atoms tells))

pub returns-in-Ok : goal.returns-in-Ok
returns-in-Ok c = λ know atoms tells list.
    subst (λ (t : State). forgetting_node know atoms c.args.node c.args.s.now ≡ Ok (t ∷ [])) (sym (c.in-Ok.ensures.told atoms list)) (c.in_ok-premises.ensures.told know atoms tells)
