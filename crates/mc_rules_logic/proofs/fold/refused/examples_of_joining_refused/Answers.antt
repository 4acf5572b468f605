use Rattle.mc_rules_logic.proofs.FoldLemmas.Refusing.{join_absent, join_twice, join_list, join_apart}
use Rattle.mc_rules_logic.proofs.fold.refused.examples_of_joining_refused.Goals as goal

pub returns : goal.returns
returns c =
    let truth = c.derived_is_true.ensures.derived in
    let sound = c.derived_is_true.ensures.not_false in
    record {
      absent = join_absent truth sound;
      twice = join_twice truth sound;
      list = join_list truth sound;
      apart = join_apart truth sound;
    }
