use Rattle.std.proofs.Common.{ℕ, suc, sym, subst, add-one, arith}
use Rattle.mc_judge.proofs.PassesLemmas.Places.{IsLeft, left_down, left_here, left_none, left_on}
use Rattle.mc_judge.proofs.passes.places.place_for.Goals.{then-head-point+else-left-eq0, else-head-point}
use Rattle.mc_judge.proofs.passes.places.place_for.Goals as goal

pub returns-then-left-eq0 : goal.returns-then-left-eq0
returns-then-left-eq0 c =
    left_here c.args.heads.now c.args.point c.args.number c.loop-place.place c.index-heads-place.result c.loop-place-test.true c.index-heads-place.is
    c.if-head-point.true
    (subst (λ (n : ℕ). IsLeft c.args.heads.now c.args.point c.args.number n c.loop-place.place) c.if-left-eq0.true c.loop-place.invariant)

pub loop-place-preserved : goal.loop-place-preserved
loop-place-preserved c =
    subst (λ (i : ℕ). IsLeft c.args.heads.now c.args.point c.args.number c.if-head-point.left i) (sym (add-one c.loop-place.place))
    (elim c.if-head-point.branch [
      | then-head-point+else-left-eq0 w ↦
          left_down c.args.heads.now c.args.point c.args.number c.loop-place.left c.if-head-point.left c.loop-place.place c.index-heads-place.result
          c.loop-place-test.true c.index-heads-place.is w.if-head-point.true w.if-left-eq0.false w.left-is c.loop-place.invariant
      | else-head-point w ↦
          subst (λ (n : ℕ). IsLeft c.args.heads.now c.args.point c.args.number n (suc c.loop-place.place)) (sym w.left-is)
          (left_on c.args.heads.now c.args.point c.args.number c.loop-place.left c.loop-place.place c.index-heads-place.result
          c.loop-place-test.true c.index-heads-place.is w.if-head-point.false c.loop-place.invariant)
    ])

pub returns : goal.returns
returns c = left_none c.args.heads.now c.args.point c.args.number c.loop-place.left c.loop-place.place (omega arith) c.loop-place.invariant
