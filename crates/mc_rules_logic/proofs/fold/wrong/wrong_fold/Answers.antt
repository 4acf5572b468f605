use Rattle.mc_rules_logic.proofs.FoldLemmas.Parts.{PartLaws}
use Rattle.mc_rules_logic.proofs.FoldLemmas.WrongFolds.{not_shared}
use Rattle.mc_rules_logic.proofs.fold.wrong.wrong_fold.Goals as goal

pub returns : goal.returns
returns c =
    let parts : PartLaws = record {
      commutes = c.parts_regroup.ensures.commutes;
      left = c.parts_regroup.ensures.left;
      drops_empty = c.parts_regroup.ensures.drops_empty;
      adds_empty = c.parts_regroup.ensures.adds_empty;
    } in
    not_shared parts c.heaps_change_one_address.ensures.insert_keeps c.derived_is_true.ensures.not_false c.example_premises.ensures.addresses c.example_predicates.ensures.no_tree
