use Rattle.mc_c_grammar.proofs.PlacesLemmas.Orders.{ascending_differ}
use Rattle.mc_c_grammar.proofs.places.laws.ascending_places_differ.Goals as goal

pub returns : goal.returns
returns c = ascending_differ
