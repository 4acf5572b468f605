use Rattle.mc_lower_laws.proofs.KindsLemmas.Read.{unit_known}
use Rattle.mc_lower_laws.proofs.kinds.laws.typedefs_are_known.Goals as goal

pub returns : goal.returns
returns c = unit_known
