use Rattle.mc_rules_logic.proofs.FoldLemmas.MadeEdges.{fold_ind_made, fold_seg_made}
use Rattle.mc_rules_logic.proofs.fold.made.folding_makes_well.Goals as goal

pub returns : goal.returns
returns c = record { ind = fold_ind_made c.folding_is_sound.ensures.ind; seg = fold_seg_made c.folding_is_sound.ensures.seg }
