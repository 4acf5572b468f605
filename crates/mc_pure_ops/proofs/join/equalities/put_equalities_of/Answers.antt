use Rattle.mc_pure_ops.specs.Join.Parts.{EqualityAt}
use Rattle.mc_pure_ops.proofs.JoinLemmas.Gaining.{below_more, gains_some}
use Rattle.mc_pure_ops.proofs.join.equalities.put_equalities_of.Goals as goal

pub loop-j-preserved : goal.loop-j-preserved
loop-j-preserved c = below_more (EqualityAt c.args.left.now c.args.right.now c.args.pairs.now c.args.i) c.loop-j.j c.args.joint.now c.loop-j.joint c.put_some.new.joint c.loop-j.invariant (gains_some _ c.equality.result c.loop-j.joint c.put_some.new.joint c.equality.ensures c.in_ok-put_some.ensures)
