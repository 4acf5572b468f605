use Rattle.mc_shape_search.proofs.SatLemmas.Low.{part_is_heap}
use Rattle.mc_shape_search.proofs.sat.laws.parts_are_heaps.Goals as goal

pub returns : goal.returns
returns c = part_is_heap
