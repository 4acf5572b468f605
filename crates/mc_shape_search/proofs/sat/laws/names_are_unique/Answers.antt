use Rattle.mc_shape_search.proofs.SatLemmas.Low.{names_are_unique}
use Rattle.mc_shape_search.proofs.sat.laws.names_are_unique.Goals as goal

pub returns : goal.returns
returns c = names_are_unique
