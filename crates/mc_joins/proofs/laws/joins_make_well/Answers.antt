use Rattle.mc_joins.proofs.JoinMade.{joins_make_well}
use Rattle.mc_joins.proofs.laws.joins_make_well.Goals as goal

pub returns : goal.returns
returns c =
    joins_make_well c.naming_is_judged.ensures.spare c.naming_makes_well.ensures.spare c.nodes_are_there.ensures.kinds c.tests_tell.ensures.kind
