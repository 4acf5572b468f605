use Rattle.mc_pure_ops.proofs.RenamedLemmas.Gathering.{images_are_one_list, renamed_fits}
use Rattle.mc_pure_ops.proofs.renamed.renamed_is_known.Goals as goal

pub returns-clause-one : goal.returns-clause-one
returns-clause-one c = images_are_one_list

pub returns-clause-fits : goal.returns-clause-fits
returns-clause-fits c = renamed_fits
