use Rattle.mc_apply_fold.proofs.FoldLemmas.There.{name_there, names_there, params_there}
use Rattle.mc_apply_fold.proofs.fold.laws.names_are_there.Goals as goal

pub returns : goal.returns
returns c = record { name = name_there; names = names_there; params = params_there }
