use Rattle.mc_rules_logic.proofs.ListedLemmas.Writing.{lists}
use Rattle.mc_rules_logic.proofs.listed.lists_are_there.Goals as goal

pub returns : goal.returns
returns c = lists c.each_is_decided.ensures.decided c.each_is_decided.ensures.normal c.normal_forms_say_all.ensures c.derived_grows.ensures.atoms
