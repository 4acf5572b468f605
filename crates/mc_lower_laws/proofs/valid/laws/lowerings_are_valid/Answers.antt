use Rattle.mc_lower_laws.proofs.ValidLemmas.Validity.{valid}
use Rattle.mc_lower_laws.proofs.valid.laws.lowerings_are_valid.Goals as goal

pub returns : goal.returns
returns c = λ g entry out count well lowering. valid g entry out count well lowering
