use Rattle.mc_pure_ops.proofs.RenamingLemmas.Adding.{Turns}
use Rattle.mc_pure_ops.proofs.renaming.Renaming.inverse.Given as goal

abbrev pub invariant-loop-pair : goal.invariant-loop-pair
invariant-loop-pair l = Turns l.pair-items l.pair-index l.back
