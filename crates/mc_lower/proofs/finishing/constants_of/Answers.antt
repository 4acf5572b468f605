use Rattle.std.proofs.Common.{◌<◌, ◌≤◌, Some, sym, ap, ◌∙◌, length, arith}
use Rattle.std.proofs.lemmas.Option.{slice_get-get_or}
use Rattle.mc_lower.proofs.Constants.{collected_none, collected_more, collected}
use Rattle.mc_lower.proofs.finishing.constants_of.Goals as goal

pub loop-at-init : goal.loop-at-init
loop-at-init c = collected_none _ _ c.new-list.ensures.items

pub loop-at-preserved : goal.loop-at-preserved
loop-at-preserved c =
    let n = c.loop-at.at in
    let points = c.args.points.now in
    let below = c.loop-at-test.true in
    let inside : n < length points = omega arith in
    let d = c.index-points-at.result in
    collected_more points n _ _ d (slice_get-get_or points n d inside ∙ ap (λ y. Some y) (sym c.index-points-at.is)) c.in_ok-add_point.ensures c.loop-at.invariant

pub returns : goal.returns
returns c =
    let points = c.args.points.now in
    let above = c.loop-at-test.false in
    let end = c.loop-at.auto.at-end in
    let past : length points ≤ c.loop-at.at = omega arith in
    collected points c.loop-at.at c.loop-at.list.items past c.loop-at.invariant
