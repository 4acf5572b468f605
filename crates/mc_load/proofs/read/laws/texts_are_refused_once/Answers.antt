use Rattle.mc_load.proofs.ReadLemmas.Once.{refused_once}
use Rattle.mc_load.proofs.read.laws.texts_are_refused_once.Goals as goal

pub returns : goal.returns
returns c = refused_once c.readings_are_unique.ensures c.trees_are_unique.ensures c.first_fault_is_told_once.ensures
