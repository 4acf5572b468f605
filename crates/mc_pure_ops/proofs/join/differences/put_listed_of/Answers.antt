use Rattle.mc_pure_ops.specs.Join.Parts.{ListedAt}
use Rattle.mc_pure_ops.proofs.JoinLemmas.Gaining.{below_more, gains_some}
use Rattle.mc_pure_ops.proofs.join.differences.put_listed_of.Goals as goal

pub loop-j-preserved : goal.loop-j-preserved
loop-j-preserved c = below_more (ListedAt c.args.other.now c.args.pairs.now c.args.atom.now c.args.i) c.loop-j.j c.args.joint.now c.loop-j.joint c.put_some.new.joint c.loop-j.invariant (gains_some _ c.listed.result c.loop-j.joint c.put_some.new.joint c.listed.ensures c.in_ok-put_some.ensures)
