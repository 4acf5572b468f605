use Rattle.std.proofs.Common.{length}
use Rattle.mc_pure_ops.specs.Join.Gains.{Gains}
use Rattle.mc_pure_ops.specs.Join.Parts.{ListedAt, Below}
use Rattle.mc_pure_ops.proofs.join.differences.put_listed_atom.Given as goal

abbrev pub invariant-loop-i : goal.invariant-loop-i
invariant-loop-i l = Gains (Below (λ i. Below (ListedAt l.other l.pairs l.atom i) (length l.pairs)) l.i) l.initial.joint l.joint
