use Rattle.mc_pure.specs.Known.{pure_of}
use Rattle.mc_pure.specs.Steps.{Enforced, TiesBelow}
use Rattle.mc_pure.proofs.close.enforce_written.Given as goal

abbrev pub invariant-loop-atom : goal.invariant-loop-atom
invariant-loop-atom l = Enforced (pure_of l.known) l.initial.rows l.rows (TiesBelow (pure_of l.known) l.rows l.atom-index)
