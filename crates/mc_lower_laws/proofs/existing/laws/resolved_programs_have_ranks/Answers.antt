use Rattle.mc_lower_laws.proofs.ExistingLemmas.Ranked.{ranked}
use Rattle.mc_lower_laws.proofs.existing.laws.resolved_programs_have_ranks.Goals as goal

pub returns : goal.returns
returns c = ranked
