use Rattle.mc_pure_ops.specs.Canon.Gaps.{PairsGiveOf}
use Rattle.std.proofs.Common.{arith}
use Rattle.mc_pure_ops.proofs.CanonLemmas.Taken.{pairs_all}
use Rattle.mc_pure_ops.proofs.CanonLemmas.Lists.{below_none, below_more}
use Rattle.mc_pure_ops.proofs.canon.gaps.put_pairs.Goals as goal

pub loop-i-init : goal.loop-i-init
loop-i-init c = below_none _ _

pub loop-i-preserved : goal.loop-i-preserved
loop-i-preserved c = below_more (PairsGiveOf c.args.pure.now c.args.left.now.lost c.args.starts.now c.args.inside c.args.nodes.now) c.loop-i.i _ _ _ c.loop-i.invariant c.in_ok-put_pairs_of.ensures

pub returns : goal.returns
returns c = pairs_all c.args.pure.now c.args.left.now.lost c.args.starts.now c.args.inside c.args.nodes.now c.loop-i.i _ _ (omega arith) c.loop-i.invariant
