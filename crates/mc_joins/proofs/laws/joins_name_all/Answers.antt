use Rattle.mc_joins.proofs.JoinNamed.{joins_name_all}
use Rattle.mc_joins.proofs.laws.joins_name_all.Goals as goal

pub returns : goal.returns
returns c =
    joins_name_all c.naming_is_judged.ensures.spare c.naming_makes_well.ensures.spare c.nodes_are_there.ensures.kinds c.tests_tell.ensures.kind
