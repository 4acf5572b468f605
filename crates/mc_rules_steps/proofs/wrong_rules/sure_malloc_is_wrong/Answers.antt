use Rattle.mc_rules_steps.proofs.Refuted as proof
use Rattle.mc_rules_steps.proofs.wrong_rules.sure_malloc_is_wrong.Goals as goal

pub returns : goal.returns
returns c = record { stands = proof.one_cell_at 9; wrong = proof.sure }
