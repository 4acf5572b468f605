use Rattle.mc_pure_ops.specs.Canon.Gaps.{PairsGiveAt}
use Rattle.std.proofs.Common.{arith}
use Rattle.mc_pure_ops.proofs.CanonLemmas.Taken.{pairs_of_all}
use Rattle.mc_pure_ops.proofs.CanonLemmas.Lists.{below_none, below_more, some_added}
use Rattle.mc_pure_ops.proofs.canon.gaps.put_pairs_of.Goals as goal

pub loop-j-init : goal.loop-j-init
loop-j-init c = below_none _ _

pub loop-j-preserved : goal.loop-j-preserved
loop-j-preserved c = below_more (PairsGiveAt c.args.pure.now c.args.left.now.lost c.args.starts.now c.args.inside c.args.nodes.now c.args.i) c.loop-j.j _ _ _ c.loop-j.invariant (some_added _ c.pair_at.result _ _ c.pair_at.ensures c.in_ok-put_some.ensures)

pub returns : goal.returns
returns c = pairs_of_all c.args.pure.now c.args.left.now.lost c.args.starts.now c.args.inside c.args.nodes.now c.args.i c.loop-j.j _ _ (omega arith) c.loop-j.invariant
