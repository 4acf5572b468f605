use Rattle.mc_kernel.proofs.ProgressLemmas.Advancing as proof
use Rattle.mc_kernel.proofs.progress.laws.branches_advance.Goals as goal

pub returns-clause-advance : goal.returns-clause-advance
returns-clause-advance c =
    proof.branches_advance (record { judges = c.judges_are_there.ensures; first = c.asked_lines_are_right.ensures.first; code = c.asked_lines_are_right.ensures.code })

pub returns-clause-chains : goal.returns-clause-chains
returns-clause-chains c =
    proof.chains_advance (record { judges = c.judges_are_there.ensures; first = c.asked_lines_are_right.ensures.first; code = c.asked_lines_are_right.ensures.code })
