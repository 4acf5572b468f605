use Rattle.mc_rules_logic.proofs.BackLemmas.Judging.{back_determined}
use Rattle.mc_rules_logic.proofs.back.laws.back_is_determined.Goals as goal

pub returns : goal.returns
returns c = back_determined
