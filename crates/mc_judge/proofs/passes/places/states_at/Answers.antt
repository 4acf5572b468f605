use Rattle.std.proofs.Common.{◌∙◌, ℕ, List, suc, ap, refl, sym, subst, add-one, arith}
use Rattle.std.specs.Borrow.{Bor}
use Rattle.mc_state.specs.State.{State}
use Rattle.mc_judge.proofs.PassesLemmas.Places.{AreSoFar, far_all, far_more, far_on}
use Rattle.mc_judge.proofs.passes.places.states_at.Goals.{then-head-point+in_ok-push, else-head-point}
use Rattle.mc_judge.proofs.passes.places.states_at.Goals as goal

pub loop-head-preserved : goal.loop-head-preserved
loop-head-preserved c =
    subst (λ (i : ℕ). AreSoFar c.args.heads.now c.args.point c.if-head-point.states.items i) (sym (add-one c.loop-head.head-index))
    (elim c.if-head-point.branch [
      | then-head-point+in_ok-push w ↦
          subst (λ (ss : List (Bor State)). AreSoFar c.args.heads.now c.args.point ss (suc c.loop-head.head-index))
          (sym (ap (λ v. v.items) w.states-is ∙ w.in_ok-push.ensures.items))
          (far_more c.args.heads.now c.args.point c.loop-head.states.items c.loop-head.head-index c.head-item.result _ c.loop-head-test.true c.head-item.is
          w.if-head-point.true refl c.loop-head.invariant)
      | else-head-point w ↦
          subst (λ (ss : List (Bor State)). AreSoFar c.args.heads.now c.args.point ss (suc c.loop-head.head-index))
          (sym (ap (λ v. v.items) w.states-is))
          (far_on c.args.heads.now c.args.point c.loop-head.states.items c.loop-head.head-index c.head-item.result c.loop-head-test.true c.head-item.is
          w.if-head-point.false c.loop-head.invariant)
    ])

pub returns : goal.returns
returns c = far_all c.args.heads.now c.args.point c.loop-head.states.items c.loop-head.head-index (omega arith) c.loop-head.invariant
