use Rattle.mc_kernel.proofs.ProgressLemmas.Staying as proof
use Rattle.mc_kernel.proofs.progress.laws.branches_stay_inside.Goals as goal

pub returns-clause-inside : goal.returns-clause-inside
returns-clause-inside c = proof.lines_stay_inside

pub returns-clause-still_open : goal.returns-clause-still_open
returns-clause-still_open c = proof.lines_stay_open
