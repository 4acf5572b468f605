use Rattle.mc_rules_logic.proofs.FoldLemmas.Refusing.{make_absent, make_more, make_apart, make_lengths}
use Rattle.mc_rules_logic.proofs.fold.refused.examples_of_making_refused.Goals as goal

pub returns : goal.returns
returns c =
    let truth = c.derived_is_true.ensures.derived in
    let sound = c.derived_is_true.ensures.not_false in
    record {
      absent = make_absent truth sound;
      more = make_more truth sound;
      apart = make_apart truth sound;
      lengths = make_lengths truth sound;
    }
