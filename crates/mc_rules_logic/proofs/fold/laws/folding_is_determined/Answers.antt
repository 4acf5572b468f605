use Rattle.mc_rules_logic.proofs.FoldLemmas.Determined.{fold_ind_determined, fold_seg_determined, close_seg_determined, join_segs_determined, empty_seg_determined}
use Rattle.mc_rules_logic.proofs.fold.laws.folding_is_determined.Goals as goal

pub returns : goal.returns
returns c =
    record { ind = fold_ind_determined; seg = fold_seg_determined; close = close_seg_determined; join = join_segs_determined; empty = empty_seg_determined }
