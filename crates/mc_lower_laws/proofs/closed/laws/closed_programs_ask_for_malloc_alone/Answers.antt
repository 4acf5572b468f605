use Rattle.mc_lower_laws.proofs.ClosedLemmas.{closed_flow}
use Rattle.mc_lower_laws.proofs.closed.laws.closed_programs_ask_for_malloc_alone.Goals as goal

pub returns : goal.returns
returns c = λ g entry out count closed lowering. closed_flow g entry out count closed lowering
