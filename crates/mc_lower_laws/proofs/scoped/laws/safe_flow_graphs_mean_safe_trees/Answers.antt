use Rattle.mc_lower_laws.proofs.ScopedLemmas.Trees.{safe_trees}
use Rattle.mc_lower_laws.proofs.scoped.laws.safe_flow_graphs_mean_safe_trees.Goals as goal

pub returns : goal.returns
returns c = safe_trees c.faults_are_in_flow_graphs.ensures
