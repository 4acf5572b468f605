use Rattle.std.proofs.Common.{ℕ, ◌<◌}
use Rattle.mc_pure.specs.Known.{pure_of}
use Rattle.mc_pure.specs.Steps.{IsGivenByStart}
use Rattle.mc_pure.proofs.ask.starts_give.Given as goal

abbrev pub invariant-loop-i : goal.invariant-loop-i
invariant-loop-i l = (i : ℕ) → i < l.i → IsGivenByStart (pure_of l.known) l.rows i l.left l.right l.c → ⊥
