use Rattle.mc_rules_logic.proofs.BackLemmas.Judging.{back_judged}
use Rattle.mc_rules_logic.proofs.back.laws.back_is_judged.Goals as goal

pub returns : goal.returns
returns c = back_judged c.back_is_told.ensures
