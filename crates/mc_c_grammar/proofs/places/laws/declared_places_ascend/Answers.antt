use Rattle.mc_c_grammar.proofs.PlacesLemmas.Lexed.{tokens_in_order}
use Rattle.mc_c_grammar.proofs.PlacesLemmas.Within.{within_ascends}
use Rattle.mc_c_grammar.proofs.PlacesLemmas.WithinUnits.{unit_within}
use Rattle.mc_c_grammar.proofs.places.laws.declared_places_ascend.Goals as goal

pub returns : goal.returns
returns c = λ text tokens unit lexed spelled. within_ascends (unit_within spelled) (tokens_in_order lexed)
