use Rattle.mc_pure_ops.specs.Join.Parts.{HasFirst}
use Rattle.mc_pure_ops.proofs.join.nodes.numbered.Given as goal

abbrev pub invariant-loop-i : goal.invariant-loop-i
invariant-loop-i l = HasFirst l.left l.right l.pairs l.i l.joint
