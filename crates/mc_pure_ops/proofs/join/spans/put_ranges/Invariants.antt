use Rattle.mc_pure_ops.specs.Join.Gains.{Gains}
use Rattle.mc_pure_ops.specs.Join.Parts.{RangeAt, Below}
use Rattle.mc_pure_ops.proofs.join.spans.put_ranges.Given as goal

abbrev pub invariant-loop-i : goal.invariant-loop-i
invariant-loop-i l = Gains (Below (RangeAt l.left l.right l.pairs l.round l.thresholds) l.i) l.initial.joint l.joint
