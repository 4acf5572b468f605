use Rattle.std.proofs.Common.{ℕ, ◌<◌}
use Rattle.mc_pure.specs.Known.{pure_of}
use Rattle.mc_pure.specs.Steps.{IsGivenByPair}
use Rattle.mc_pure.proofs.ask.start_gives.Given as goal

abbrev pub invariant-loop-j : goal.invariant-loop-j
invariant-loop-j l = (j : ℕ) → j < l.j → IsGivenByPair (pure_of l.known) l.rows l.i j l.left l.right l.c → ⊥
