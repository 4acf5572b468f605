use Rattle.mc_rules_logic.proofs.UnfoldLemmas.Judging.{ind_judged, seg_judged}
use Rattle.mc_rules_logic.proofs.unfold.laws.unfolding_is_judged.Goals as goal

pub returns : goal.returns
returns c = record { ind = ind_judged; seg = seg_judged }
