use Rattle.mc_rules_logic.proofs.FoldLemmas.Refusing.{name_absent, name_large, name_pointer, merge_itself, merge_null, merge_absent}
use Rattle.mc_rules_logic.proofs.fold.refused.examples_of_naming_refused.Goals as goal

pub returns : goal.returns
returns c =
    let truth = c.derived_is_true.ensures.derived in
    let sound = c.derived_is_true.ensures.not_false in
    record {
      absent = name_absent truth sound;
      large = name_large truth sound;
      kind = name_pointer truth sound;
      itself = merge_itself truth sound;
      merged_null = merge_null truth sound;
      none_there = merge_absent truth sound;
    }
