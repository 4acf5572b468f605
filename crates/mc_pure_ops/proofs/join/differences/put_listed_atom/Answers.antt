use Rattle.std.proofs.Common.{length}
use Rattle.mc_pure_ops.specs.Join.Parts.{ListedAt, Below}
use Rattle.mc_pure_ops.proofs.JoinLemmas.Gaining.{below_more}
use Rattle.mc_pure_ops.proofs.join.differences.put_listed_atom.Goals as goal

pub loop-i-preserved : goal.loop-i-preserved
loop-i-preserved c = below_more (λ i. Below (ListedAt c.args.other.now c.args.pairs.now c.args.atom.now i) (length c.args.pairs.now)) c.loop-i.i c.args.joint.now c.loop-i.joint c.put_listed_of.new.joint c.loop-i.invariant c.in_ok-put_listed_of.ensures
