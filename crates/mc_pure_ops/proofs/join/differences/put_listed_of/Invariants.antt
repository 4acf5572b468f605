use Rattle.mc_pure_ops.specs.Join.Gains.{Gains}
use Rattle.mc_pure_ops.specs.Join.Parts.{ListedAt, Below}
use Rattle.mc_pure_ops.proofs.join.differences.put_listed_of.Given as goal

abbrev pub invariant-loop-j : goal.invariant-loop-j
invariant-loop-j l = Gains (Below (ListedAt l.other l.pairs l.atom l.i) l.j) l.initial.joint l.joint
