use Rattle.mc_lower_laws.proofs.KindsLemmas.Wholes.{well_made}
use Rattle.mc_lower_laws.proofs.kinds.laws.resolved_programs_are_well_made.Goals as goal

pub returns : goal.returns
returns c = well_made
