use Rattle.mc_rules_steps.proofs.Causes as proof
use Rattle.mc_rules_steps.proofs.judged_laws.causes_are_one.Goals as goal

pub returns : goal.returns
returns c = proof.causes_are_one
