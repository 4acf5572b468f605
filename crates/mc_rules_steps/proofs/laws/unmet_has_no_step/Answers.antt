use Rattle.mc_rules_steps.proofs.Gaps as proof
use Rattle.mc_rules_steps.proofs.laws.unmet_has_no_step.Goals as goal

pub returns : goal.returns
returns c = proof.unmet_has_no_step c.contradictions_are_false.ensures.one_node
