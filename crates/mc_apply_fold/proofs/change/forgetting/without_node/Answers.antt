use Rattle.std.proofs.Common.{◌≡◌, ◌∷◌, ◌∙◌, [], IfOk, ap, subst, sym}
use Rattle.mc_rules_logic.specs.Fold.Changed.{IsListWithout, left_over}
use Rattle.mc_state.specs.Facts.{IsFalse}
use Rattle.mc_state.specs.State.{State}
use Rattle.mc_apply_fold.proofs.change.forgetting.without_node.Goals as goal

pub forget-requires-clause-not_false : goal.forget-requires-clause-not_false
forget-requires-clause-not_false c = subst (λ (t : State). IsFalse t → ⊥) (sym c.in_ok-next.ensures) c.requires.not_false

pub returns : goal.returns
returns c = λ atoms list.
    let same = c.in_ok-next.ensures in
    let node = c.args.node in
    let left : c.forget.new.state ≡ left_over c.args.s.now node atoms =
    c.in_ok-forget.ensures.told atoms (subst (λ (t : State). IsListWithout node t atoms) (sym same) list) ∙ ap (λ (t : State). left_over t node atoms) same in
    subst (λ (t : State). IfOk c.single.result (λ next. next.items ≡ t ∷ [])) left c.single.ensures
