use Rattle.mc_rules_logic.proofs.FoldLemmas.FoldJudging.{fold_ind_judged, fold_seg_judged}
use Rattle.mc_rules_logic.proofs.fold.judged.folding_is_judged.Goals as goal

pub returns : goal.returns
returns c = record { ind = fold_ind_judged; seg = fold_seg_judged }
