use Rattle.std.proofs.Common.{refl}
use Rattle.mc_shape_search.specs.Search.Search.{options, tries}
use Rattle.mc_cover.proofs.examples.no_firsts.Goals as goal

pub returns : goal.returns
unfolding options tries
returns c = record { pointer = refl; shared = refl }
