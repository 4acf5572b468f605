use Rattle.mc_pure_ops.specs.Join.Gains.{Gains}
use Rattle.mc_pure_ops.specs.Join.Parts.{EqualityAt, Below}
use Rattle.mc_pure_ops.proofs.join.equalities.put_equalities_of.Given as goal

abbrev pub invariant-loop-j : goal.invariant-loop-j
invariant-loop-j l = Gains (Below (EqualityAt l.left l.right l.pairs l.i) l.j) l.initial.joint l.joint
