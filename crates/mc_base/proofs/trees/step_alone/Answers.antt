use Rattle.mc_base.proofs.trees.step_alone.Goals as goal

pub returns-in-Several : goal.returns-in-Several
returns-in-Several g c = rw c.in-Several.ensures c.split.ensures
