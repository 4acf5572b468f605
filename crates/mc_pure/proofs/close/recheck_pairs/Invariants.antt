use Rattle.std.proofs.Common.{◌≡◌}
use Rattle.mc_pure.specs.Known.{pure_of}
use Rattle.mc_pure.specs.Steps.{StartBelow}
use Rattle.mc_pure.proofs.close.recheck_pairs.Given as goal

abbrev pub invariant-loop-j : goal.invariant-loop-j
invariant-loop-j l = (l.rows ≡ l.initial.rows) × StartBelow (pure_of l.known) l.initial.rows l.i l.j
