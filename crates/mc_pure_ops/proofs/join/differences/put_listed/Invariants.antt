use Rattle.std.proofs.Common.{length}
use Rattle.mc_pure_ops.specs.Join.Gains.{Gains}
use Rattle.mc_pure_ops.specs.Join.Parts.{ListedAt, Below, AtPlace}
use Rattle.mc_pure_ops.proofs.join.differences.put_listed.Given as goal

abbrev pub invariant-loop-atom : goal.invariant-loop-atom
invariant-loop-atom l = Gains (Below (AtPlace (λ atom. Below (λ i. Below (ListedAt l.other l.pairs atom i) (length l.pairs)) (length l.pairs)) l.list) l.atom-index) l.initial.joint l.joint
