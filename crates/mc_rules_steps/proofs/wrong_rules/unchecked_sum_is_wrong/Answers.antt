use Rattle.mc_rules_steps.proofs.Refuted as proof
use Rattle.mc_rules_steps.proofs.wrong_rules.unchecked_sum_is_wrong.Goals as goal

pub returns : goal.returns
returns c = record { stands = proof.any_number_at; wrong = proof.unchecked }
