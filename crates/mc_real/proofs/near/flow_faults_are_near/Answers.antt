use Rattle.mc_real.proofs.NearFaults.{near_faults}
use Rattle.mc_real.proofs.near.flow_faults_are_near.Goals as goal

pub returns : goal.returns
returns c = near_faults c.flow_faults_are_in_programs.ensures c.runs_are_short.ensures c.resolved_programs_run_alike.ensures.runs
