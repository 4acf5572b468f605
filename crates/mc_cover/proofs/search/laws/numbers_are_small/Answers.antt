use Rattle.mc_cover.proofs.SearchLemmas.Small.{adds_small}
use Rattle.mc_cover.proofs.search.laws.numbers_are_small.Goals as goal

pub returns : goal.returns
returns c = adds_small
