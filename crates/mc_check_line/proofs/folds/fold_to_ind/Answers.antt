use Rattle.mc_check_line.proofs.folds.fold_to_ind.Goals as goal

pub returns : goal.returns
returns c = λ know tells. c.folded_to.ensures _ (c.fold_ind-given.ensures know tells)
