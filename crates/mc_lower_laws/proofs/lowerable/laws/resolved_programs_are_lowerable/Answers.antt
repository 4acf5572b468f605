use Rattle.mc_lower_laws.proofs.LowerableLemmas.Wholes.{program_lowerable}
use Rattle.mc_lower_laws.proofs.lowerable.laws.resolved_programs_are_lowerable.Goals as goal

pub returns : goal.returns
returns c = program_lowerable
