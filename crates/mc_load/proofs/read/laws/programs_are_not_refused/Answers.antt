use Rattle.mc_load.proofs.ReadLemmas.Once.{not_refused}
use Rattle.mc_load.proofs.read.laws.programs_are_not_refused.Goals as goal

pub returns : goal.returns
returns c = not_refused c.readings_are_unique.ensures c.trees_are_unique.ensures c.first_fault_is_told_once.ensures
