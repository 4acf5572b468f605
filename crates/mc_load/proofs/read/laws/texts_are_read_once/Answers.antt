use Rattle.mc_load.proofs.ReadLemmas.Once.{read_once}
use Rattle.mc_load.proofs.read.laws.texts_are_read_once.Goals as goal

pub returns : goal.returns
returns c = read_once c.readings_are_unique.ensures c.trees_are_unique.ensures
