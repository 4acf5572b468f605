use Rattle.mc_lower_laws.proofs.ScopedLemmas.Wholes.{program_scoped}
use Rattle.mc_lower_laws.proofs.scoped.laws.resolved_programs_are_scoped.Goals as goal

pub returns : goal.returns
returns c = program_scoped
