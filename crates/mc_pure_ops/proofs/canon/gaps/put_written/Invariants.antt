use Rattle.mc_pure_ops.specs.Canon.Order.{Added}
use Rattle.mc_pure_ops.specs.Canon.Gaps.{AtomGives}
use Rattle.mc_pure_ops.proofs.CanonLemmas.Lists.{Upto}
use Rattle.mc_pure_ops.proofs.canon.gaps.put_written.Given as goal

abbrev pub invariant-loop-atom : goal.invariant-loop-atom
invariant-loop-atom l = Added (Upto (AtomGives l.pure l.left.lost l.starts l.inside) l.atom-items l.atom-index) l.initial.list.items l.list.items
