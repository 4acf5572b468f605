use Rattle.mc_rules_logic.proofs.FoldLemmas.Refusing.{fold_unknown, fold_other_call, fold_no_block, fold_kind, fold_elsewhere, merge_kinds, merge_apart}
use Rattle.mc_rules_logic.proofs.fold.refused.examples_of_cells_refused.Goals as goal

pub returns : goal.returns
returns c =
    let truth = c.derived_is_true.ensures.derived in
    let sound = c.derived_is_true.ensures.not_false in
    record {
      no_block = fold_no_block truth sound;
      kind = fold_kind truth sound;
      unknown = fold_unknown truth sound;
      other_call = fold_other_call truth sound;
      elsewhere = fold_elsewhere truth sound;
      two_kinds = merge_kinds truth sound;
      apart = merge_apart truth sound;
    }
