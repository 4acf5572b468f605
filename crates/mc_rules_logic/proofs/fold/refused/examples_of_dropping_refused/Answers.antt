use Rattle.mc_rules_logic.proofs.FoldLemmas.Refusing.{drop_absent, drop_reached, forget_null, forget_absent, forget_start, forget_variable, meet_tree, meet_absent, meet_null}
use Rattle.mc_rules_logic.proofs.fold.refused.examples_of_dropping_refused.Goals as goal

pub returns : goal.returns
returns c =
    let truth = c.derived_is_true.ensures.derived in
    let sound = c.derived_is_true.ensures.not_false in
    record {
      absent = drop_absent truth sound;
      reached = drop_reached truth sound;
      forgotten_null = λ atoms know tells. forget_null truth sound know tells atoms;
      no_node = λ atoms know tells. forget_absent truth sound know tells atoms;
      start = λ atoms know tells. forget_start truth sound know tells atoms;
      variable = λ atoms know tells. forget_variable truth sound know tells atoms;
      tree = meet_tree truth sound;
      no_edge = meet_absent truth sound;
      elsewhere = meet_null truth sound;
    }
