use Rattle.mc_real.proofs.ExactAlarms.{exact_reached}
use Rattle.mc_real.proofs.laws.exact_alarms_are_reached.Goals as goal

pub returns : goal.returns
returns c = exact_reached c.alarms_are_real.ensures c.flow_faults_are_near.ensures
