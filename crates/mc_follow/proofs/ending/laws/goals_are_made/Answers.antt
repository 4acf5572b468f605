use Rattle.mc_follow.proofs.EndingLemmas.Steps.{steps}
use Rattle.mc_follow.proofs.ending.laws.goals_are_made.Goals as goal

pub returns : goal.returns
returns c =
    steps c.lists_are_there.ensures c.naming_makes_well.ensures.spare c.naming_is_determined.ensures.spare c.naming_is_determined.ensures.forget
    c.folding_is_determined.ensures.ind c.folding_is_determined.ensures.close
