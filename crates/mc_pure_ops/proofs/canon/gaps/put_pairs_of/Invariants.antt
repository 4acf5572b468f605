use Rattle.mc_pure_ops.specs.Canon.Order.{Added}
use Rattle.mc_pure_ops.specs.Canon.Gaps.{PairsGiveAt}
use Rattle.mc_pure_ops.proofs.CanonLemmas.Lists.{Below}
use Rattle.mc_pure_ops.proofs.canon.gaps.put_pairs_of.Given as goal

abbrev pub invariant-loop-j : goal.invariant-loop-j
invariant-loop-j l = Added (Below (PairsGiveAt l.pure l.left.lost l.starts l.inside l.nodes l.i) l.j) l.initial.list.items l.list.items
