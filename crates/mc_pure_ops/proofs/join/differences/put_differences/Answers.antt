use Rattle.mc_pure_ops.specs.Join.Parts.{DifferenceAt, Below}
use Rattle.mc_pure_ops.proofs.JoinLemmas.Gaining.{below_more}
use Rattle.mc_pure_ops.proofs.join.differences.put_differences.Goals as goal

pub loop-i-preserved : goal.loop-i-preserved
loop-i-preserved c = below_more (λ i. Below (DifferenceAt c.args.left.now c.args.right.now c.args.pairs.now i) i) c.loop-i.i c.args.joint.now c.loop-i.joint c.put_differences_of.new.joint c.loop-i.invariant c.in_ok-put_differences_of.ensures
