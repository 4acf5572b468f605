use Rattle.std.proofs.Common.{refl}
use Rattle.mc_shape_search.specs.Search.Search.{options, tries}
use Rattle.mc_cover.proofs.examples.example_segments.Goals as goal

pub returns : goal.returns
unfolding options tries
returns c = record { itself = refl; one_cell = refl; through_left = refl }
