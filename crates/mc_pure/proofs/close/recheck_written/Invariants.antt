use Rattle.std.proofs.Common.{◌≡◌}
use Rattle.mc_pure.specs.Known.{pure_of}
use Rattle.mc_pure.specs.Steps.{WrittenBelow}
use Rattle.mc_pure.proofs.close.recheck_written.Given as goal

abbrev pub invariant-loop-atom : goal.invariant-loop-atom
invariant-loop-atom l = (l.rows ≡ l.initial.rows) × WrittenBelow (pure_of l.known) l.initial.rows l.atom-index
