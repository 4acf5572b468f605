use Rattle.mc_pure_ops.specs.Canon.Order.{Added}
use Rattle.mc_pure_ops.specs.Canon.Gaps.{PairsGiveOf}
use Rattle.mc_pure_ops.proofs.CanonLemmas.Lists.{Below}
use Rattle.mc_pure_ops.proofs.canon.gaps.put_pairs.Given as goal

abbrev pub invariant-loop-i : goal.invariant-loop-i
invariant-loop-i l = Added (Below (PairsGiveOf l.pure l.left.lost l.starts l.inside l.nodes) l.i) l.initial.list.items l.list.items
