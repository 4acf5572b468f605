use Rattle.mc_rules_steps.proofs.Refuted as proof
use Rattle.mc_rules_steps.proofs.wrong_rules.unknown_load_is_wrong.Goals as goal

pub returns : goal.returns
returns c = record { stands = proof.one_cell_at 18; wrong = proof.unknown }
