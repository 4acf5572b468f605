use Rattle.mc_app.proofs.Deciding.{decided}
use Rattle.mc_app.proofs.laws.closed_programs_are_decided.Goals as goal

pub returns : goal.returns
returns c = decided c.closed_programs_ask_for_malloc_alone.ensures
