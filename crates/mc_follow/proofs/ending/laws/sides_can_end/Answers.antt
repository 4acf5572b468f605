use Rattle.mc_follow.proofs.EndingLemmas.Ends.{sides_end}
use Rattle.mc_follow.proofs.ending.laws.sides_can_end.Goals as goal

pub returns : goal.returns
returns c =
    sides_end c.each_is_decided.ensures.decided c.lists_are_there.ensures c.naming_makes_well.ensures.spare c.folding_makes_well.ensures.ind c.segments_make_well.ensures.close
    c.naming_makes_well.ensures.forget
