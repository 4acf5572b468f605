use Rattle.mc_pure_ops.specs.Join.Gains.{Gains}
use Rattle.mc_pure_ops.specs.Join.Parts.{DifferenceAt, Below}
use Rattle.mc_pure_ops.proofs.join.differences.put_differences.Given as goal

abbrev pub invariant-loop-i : goal.invariant-loop-i
invariant-loop-i l = Gains (Below (λ i. Below (DifferenceAt l.left l.right l.pairs i) i) l.i) l.initial.joint l.joint
