use Rattle.mc_exact.proofs.LeastNodes.{least_is_true, least_separates}
use Rattle.mc_exact.proofs.laws.least_valuations_are_true.Goals as goal

pub returns : goal.returns
returns c = record { known = least_is_true; separate = least_separates }
