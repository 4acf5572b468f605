use Rattle.mc_rules_logic.proofs.FoldLemmas.Refusing.{fold_twice, fold_block_twice, fold_absent, fold_fewer, fold_bare, fold_block, fold_no_rule, fold_list, fold_not_null, fold_no_call, fold_all_calls}
use Rattle.mc_rules_logic.proofs.fold.refused.examples_of_forks_refused.Goals as goal

pub returns : goal.returns
returns c =
    let truth = c.derived_is_true.ensures.derived in
    let sound = c.derived_is_true.ensures.not_false in
    record {
      twice = fold_twice truth sound;
      block_twice = fold_block_twice truth sound;
      absent = fold_absent truth sound;
      fewer = fold_fewer truth sound;
      bare = fold_bare truth sound;
      block = fold_block truth sound;
      no_rule = fold_no_rule truth sound;
      list = fold_list truth sound;
      not_null = fold_not_null truth sound;
      no_call = fold_no_call truth sound;
      all_calls = fold_all_calls truth sound;
    }
