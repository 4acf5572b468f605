use Rattle.mc_check_line.proofs.folds.fold_to_seg.Goals as goal

pub returns : goal.returns
returns c = λ know tells. c.folded_to.ensures _ (c.fold_seg-given.ensures know tells)
