use Rattle.mc_rules_logic.proofs.UnfoldLemmas.Places.{own_listed, own_places_own}
use Rattle.mc_rules_logic.proofs.unfold.laws.own_places_are_calls.Goals as goal

pub returns : goal.returns
returns c = record { listed = own_listed; own = own_places_own }
