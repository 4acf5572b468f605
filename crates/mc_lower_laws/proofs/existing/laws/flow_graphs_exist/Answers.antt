use Rattle.mc_lower_laws.proofs.ExistingLemmas.Whole.{flow_graph_of}
use Rattle.mc_lower_laws.proofs.existing.laws.flow_graphs_exist.Goals as goal

pub returns : goal.returns
returns c = flow_graph_of
