use Rattle.mc_replay.proofs.NamableLemmas.{args_namable, both_namable}
use Rattle.mc_replay.proofs.naming.namable_in_range.Goals as goal

pub returns-clause-args : goal.returns-clause-args
returns-clause-args c = args_namable (record {
  says = c.normal_forms_say_all.ensures;
  grows = c.derived_grows.ensures.atoms;
  has = c.each_is_decided.ensures.normal;
  judged = c.naming_is_judged.ensures.spare;
  stays = c.naming_makes_well.ensures.spare;
  below = c.nodes_are_there.ensures.below;
})

pub returns-clause-both : goal.returns-clause-both
returns-clause-both c = both_namable (record {
  says = c.normal_forms_say_all.ensures;
  grows = c.derived_grows.ensures.atoms;
  has = c.each_is_decided.ensures.normal;
  judged = c.naming_is_judged.ensures.spare;
  stays = c.naming_makes_well.ensures.spare;
  below = c.nodes_are_there.ensures.below;
})
