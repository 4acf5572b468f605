use Rattle.mc_lower_spec.proofs.LengthLemmas.Whole.{whole}
use Rattle.mc_lower_spec.proofs.length.laws.flow_graphs_are_so_long.Goals as goal

pub returns : goal.returns
returns c = whole
