use Rattle.mc_pure.specs.Known.{pure_of}
use Rattle.mc_pure.specs.Steps.{Enforced, AddressesBelow}
use Rattle.mc_pure.proofs.close.enforce_starts.Given as goal

abbrev pub invariant-loop-start : goal.invariant-loop-start
invariant-loop-start l = Enforced (pure_of l.known) l.initial.rows l.rows (AddressesBelow (pure_of l.known) l.rows l.start-index)
