use Rattle.mc_joins.proofs.ChainsLemmas.AnewMade.{anew_made}
use Rattle.mc_joins.proofs.chains.laws.numbering_makes_well.Goals as goal

pub returns : goal.returns
returns c = λ flow defs s made. anew_made c.numbering_is_sound.ensures.bounded defs flow.vars flow.structs.list s made
