use Rattle.mc_pure_ops.proofs.RenamingLemmas.Adding.{Gathers, KeysBelow, both_images}
use Rattle.mc_pure_ops.proofs.renaming.Renaming.compose.Given as goal

abbrev pub invariant-loop-pair : goal.invariant-loop-pair
invariant-loop-pair l = Gathers (both_images l.self l.after) (KeysBelow l.pair-items l.pair-index) l.both
