use Rattle.mc_kernel.proofs.ShownLemmas.Folding as folding
use Rattle.mc_kernel.proofs.shown.folds.goals_keep_their_nodes.Goals as goal

pub returns : goal.returns
returns c =
    let truth = c.derived_is_true.ensures.derived in
    let sound = c.derived_is_true.ensures.not_false in
    record {
      wrong = folding.of_false;
      absent = folding.absent truth sound;
      at = folding.goal_at truth sound;
      argument = folding.goal_argument truth sound;
    }
