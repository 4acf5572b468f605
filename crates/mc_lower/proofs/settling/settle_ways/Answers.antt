use Rattle.std.proofs.Common.{◌≤◌, sym, ◌∙◌, length, arith}
use Rattle.mc_lower.proofs.Ways.{points_all, points_more, settles_more}
use Rattle.mc_lower.proofs.settling.settle_ways.Goals as goal

pub loop-label-preserved : goal.loop-label-preserved
loop-label-preserved c =
    let one = c.in_ok-settle_one.ensures in
    record {
      settles = settles_more c.loop-label.invariant.settles one.settles;
      done = points_more one.settles _ c.loop-label.invariant.done one.first;
    }

pub returns-clause-all : goal.returns-clause-all
returns-clause-all c =
    let same = c.loop-label.invariant.settles.size ∙ sym c.args.ways.now.ok.0 ∙ sym c.len-labels.ensures in
    let past : length c.loop-label.ways.items ≤ c.loop-label.label = let bound = c.loop-label-test.false in omega arith in
    points_all _ _ past c.loop-label.invariant.done
