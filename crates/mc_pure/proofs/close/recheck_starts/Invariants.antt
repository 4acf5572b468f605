use Rattle.std.proofs.Common.{◌≡◌}
use Rattle.mc_pure.specs.Known.{pure_of}
use Rattle.mc_pure.specs.Steps.{StartsBelow}
use Rattle.mc_pure.proofs.close.recheck_starts.Given as goal

abbrev pub invariant-loop-i : goal.invariant-loop-i
invariant-loop-i l = (l.rows ≡ l.initial.rows) × StartsBelow (pure_of l.known) l.initial.rows l.scope l.i
