use Rattle.mc_replay.proofs.NamedLemmas.{keeps_good, keeps_tests, good_told}
use Rattle.mc_replay.proofs.naming.naming_keeps_good.Goals as goal

pub returns-clause-good : goal.returns-clause-good
returns-clause-good c =
    keeps_good c.normal_forms_say_all.ensures c.derived_grows.ensures.atoms c.each_is_decided.ensures.normal
    c.naming_makes_well.ensures.spare c.nodes_are_there.ensures.below

pub returns-clause-tests : goal.returns-clause-tests
returns-clause-tests c = keeps_tests c.naming_makes_well.ensures.spare

pub returns-clause-told : goal.returns-clause-told
returns-clause-told c = good_told c.each_is_decided.ensures.decided
