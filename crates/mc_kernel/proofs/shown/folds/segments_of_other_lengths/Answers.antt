use Rattle.mc_kernel.proofs.ShownLemmas.Folding as folding
use Rattle.mc_kernel.proofs.shown.folds.segments_of_other_lengths.Goals as goal

pub returns : goal.returns
returns c =
    let truth = c.derived_is_true.ensures.derived in
    let sound = c.derived_is_true.ensures.not_false in
    folding.not_joined truth sound
