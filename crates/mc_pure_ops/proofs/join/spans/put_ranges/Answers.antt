use Rattle.mc_pure_ops.specs.Join.Parts.{RangeAt}
use Rattle.mc_pure_ops.proofs.JoinLemmas.Gaining.{below_more, gains_some}
use Rattle.mc_pure_ops.proofs.join.spans.put_ranges.Goals as goal

pub loop-i-preserved : goal.loop-i-preserved
loop-i-preserved c = below_more (RangeAt c.args.left.now c.args.right.now c.args.pairs.now c.args.round c.args.thresholds.now) c.loop-i.i c.args.joint.now c.loop-i.joint c.put_some.new.joint c.loop-i.invariant (gains_some _ c.range.result c.loop-i.joint c.put_some.new.joint c.range.ensures c.in_ok-put_some.ensures)
