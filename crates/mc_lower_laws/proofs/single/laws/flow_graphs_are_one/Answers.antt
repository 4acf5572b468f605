use Rattle.mc_lower_laws.proofs.SingleLemmas.Whole.{whole}
use Rattle.mc_lower_laws.proofs.single.laws.flow_graphs_are_one.Goals as goal

pub returns : goal.returns
returns c = whole
