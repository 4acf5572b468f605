use Rattle.mc_rules_steps.proofs.Refuted as proof
use Rattle.mc_rules_steps.proofs.wrong_rules.kept_block_is_wrong.Goals as goal

pub returns : goal.returns
returns c = record { stands = proof.one_cell_at 11; wrong = proof.kept }
