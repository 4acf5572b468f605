use Rattle.mc_shape_search.proofs.SatLemmas.Low.{sat_is_low}
use Rattle.mc_shape_search.proofs.sat.laws.heights_are_low.Goals as goal

pub returns : goal.returns
returns c = sat_is_low
