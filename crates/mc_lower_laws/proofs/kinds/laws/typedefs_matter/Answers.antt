use Rattle.mc_lower_laws.proofs.KindsLemmas.Itself.{itself_wrong}
use Rattle.mc_lower_laws.proofs.kinds.laws.typedefs_matter.Goals as goal

pub returns-clause-wrong : goal.returns-clause-wrong
returns-clause-wrong c = itself_wrong
