use Rattle.mc_lower_laws.proofs.ScopedLemmas.FlowFaults.{flow_faults}
use Rattle.mc_lower_laws.proofs.scoped.laws.flow_faults_are_in_programs.Goals as goal

pub returns : goal.returns
returns c = flow_faults c.resolved_programs_are_scoped.ensures c.runs_match.ensures c.resolved_programs_run_alike.ensures.runs
