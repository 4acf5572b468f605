use Rattle.mc_lower_laws.proofs.ScopedLemmas.Trees.{tree_faults}
use Rattle.mc_lower_laws.proofs.scoped.laws.faults_are_in_flow_graphs.Goals as goal

pub returns : goal.returns
returns c = tree_faults c.resolved_programs_are_scoped.ensures c.faults_match.ensures c.resolved_programs_run_alike.ensures.runs
