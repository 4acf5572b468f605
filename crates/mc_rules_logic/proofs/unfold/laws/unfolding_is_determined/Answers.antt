use Rattle.mc_rules_logic.proofs.UnfoldLemmas.Determined.{ind_determined, seg_determined}
use Rattle.mc_rules_logic.proofs.unfold.laws.unfolding_is_determined.Goals as goal

pub returns : goal.returns
returns c = record { ind = ind_determined; seg = seg_determined }
