use Rattle.mc_semantics.proofs.WorkedLemmas.Blocks.{forgetting_faults, going_on_ends, returning_ends, missing_result_faults}
use Rattle.mc_semantics.proofs.worked.laws.blocks_are_left.Goals as goal

pub returns-clause-forgetting : goal.returns-clause-forgetting
returns-clause-forgetting c = forgetting_faults

pub returns-clause-going_on : goal.returns-clause-going_on
returns-clause-going_on c = going_on_ends

pub returns-clause-returning : goal.returns-clause-returning
returns-clause-returning c = returning_ends

pub returns-clause-missing : goal.returns-clause-missing
returns-clause-missing c = missing_result_faults
