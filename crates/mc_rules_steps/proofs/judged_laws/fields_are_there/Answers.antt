use Rattle.mc_rules_steps.proofs.JudgedBlocks as proof
use Rattle.mc_rules_steps.proofs.judged_laws.fields_are_there.Goals as goal

pub returns : goal.returns
returns c = proof.fields_there
