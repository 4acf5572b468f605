use Rattle.std.proofs.Common.{subst}
use Rattle.std.specs.Prelude.{Contains}
use Rattle.std.proofs.lemmas.List.{get_or_default}
use Rattle.std.proofs.lemmas.List.Elements.{AllWithin-more}
use Rattle.mc_base.specs.declared.ids.PointId.{PointId}
use Rattle.mc_find.proofs.accepted.are_cuts.Goals as goal

pub loop-point-preserved : goal.loop-point-preserved
loop-point-preserved c =
    let cuts = c.args.cuts.now in
    let points = c.args.points.now in
    let there = c.is_cut.ensures.0 c.if-not-is_cut.false in
    AllWithin-more (Contains cuts) points 0 c.loop-point.point-index c.loop-point.invariant
    (λ d. subst (λ (p : PointId). Contains cuts p) (get_or_default points c.loop-point.point-index _ d c.loop-point-test.true) there)
