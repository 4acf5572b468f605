use Rattle.mc_pure_ops.specs.Join.Gains.{Gains}
use Rattle.mc_pure_ops.specs.Join.Parts.{EqualityAt, Below}
use Rattle.mc_pure_ops.proofs.join.equalities.put_equalities.Given as goal

abbrev pub invariant-loop-i : goal.invariant-loop-i
invariant-loop-i l = Gains (Below (λ i. Below (EqualityAt l.left l.right l.pairs i) i) l.i) l.initial.joint l.joint
