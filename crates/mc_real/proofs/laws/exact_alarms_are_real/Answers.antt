use Rattle.mc_real.proofs.ExactAlarms.{exact_alarms}
use Rattle.mc_real.proofs.laws.exact_alarms_are_real.Goals as goal

pub returns : goal.returns
returns c = exact_alarms c.exact_alarms_are_reached.ensures c.faults_are_answered.ensures
