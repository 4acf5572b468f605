use Rattle.mc_lower_spec.proofs.Running.{lowered_faults}
use Rattle.mc_lower_spec.proofs.laws.faults_match.Goals as goal

pub returns : goal.returns
returns c = lowered_faults
