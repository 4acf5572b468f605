use Rattle.mc_c_walk.proofs.Faults.{faults_given}
use Rattle.mc_c_walk.proofs.laws.visits_give_faults.Goals as goal

pub returns : goal.returns
returns c = faults_given
