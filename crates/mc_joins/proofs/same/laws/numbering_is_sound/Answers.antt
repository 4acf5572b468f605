use Rattle.mc_joins.proofs.SameLemmas.Anew.{anew_is_bounded, anew_stands}
use Rattle.mc_joins.proofs.same.laws.numbering_is_sound.Goals as goal

pub returns : goal.returns
returns c = record { bounded = anew_is_bounded c.numbers_stay_bounded.ensures.renamed; stands = anew_stands c.renaming_is_sound.ensures.forth }
