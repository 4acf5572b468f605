use Rattle.std.proofs.Common.{length}
use Rattle.mc_pure_ops.specs.Join.Parts.{ListedAt, Below}
use Rattle.mc_pure_ops.proofs.JoinLemmas.Gaining.{place_more}
use Rattle.mc_pure_ops.proofs.join.differences.put_listed.Goals as goal

pub loop-atom-preserved : goal.loop-atom-preserved
loop-atom-preserved c = place_more (λ atom. Below (λ i. Below (ListedAt c.args.other.now c.args.pairs.now atom i) (length c.args.pairs.now)) (length c.args.pairs.now)) c.args.list.now c.loop-atom.atom-index _ c.args.joint.now c.loop-atom.joint c.put_listed_atom.new.joint c.loop-atom-test.true c.loop-atom.invariant c.in_ok-put_listed_atom.ensures
