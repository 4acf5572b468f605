use Rattle.mc_rules_logic.proofs.FoldLemmas.ChangeJudging.{spare_judged, merge_judged, reached_told, drop_judged, forget_judged}
use Rattle.mc_rules_logic.proofs.fold.judged.naming_is_judged.Goals as goal

pub returns : goal.returns
returns c = record { spare = spare_judged; merge = merge_judged; reached = reached_told; drop_edge = drop_judged; forget = forget_judged }
