use Rattle.std.proofs.Common.{◌+◌, ℕ, ap, sym, subst, add-one, arith}
use Rattle.mc_judge.specs.Passes.Places.{IsPlaceAt}
use Rattle.mc_judge.proofs.PassesLemmas.Places.{ComesAfter, after_one, comes_here, comes_last}
use Rattle.mc_check_line.specs.Judging.{head_of}
use Rattle.std.proofs.Common.{map}
use Rattle.mc_judge.proofs.passes.places.place_at.Goals as goal

pub returns-then-point-head : goal.returns-then-point-head
returns-then-point-head c =
    subst (λ (i : ℕ). IsPlaceAt (map head_of c.args.heads.now) c.args.point i) (sym c.loop-head.invariant.0)
    (comes_here c.args.heads.now c.args.point c.loop-head.head-index c.head-item.result c.loop-head-test.true c.head-item.is c.if-point-head.true
    c.loop-head.invariant.1)

pub loop-head-preserved : goal.loop-head-preserved
loop-head-preserved c = (
  ap (λ (i : ℕ). i + 1) c.loop-head.invariant.0,
  subst (λ (i : ℕ). ComesAfter c.args.heads.now c.args.point i) (sym (add-one c.loop-head.head-index))
      (after_one c.args.heads.now c.args.point c.loop-head.head-index c.head-item.result c.loop-head-test.true c.head-item.is c.if-point-head.false
      c.loop-head.invariant.1),
)

pub returns : goal.returns
returns c =
    subst (λ (i : ℕ). IsPlaceAt (map head_of c.args.heads.now) c.args.point i) (sym c.loop-head.invariant.0)
    (comes_last c.args.heads.now c.args.point c.loop-head.head-index (omega arith) c.loop-head.invariant.1)
