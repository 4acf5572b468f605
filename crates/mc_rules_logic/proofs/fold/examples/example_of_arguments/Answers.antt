use Rattle.mc_rules_logic.proofs.FoldLemmas.ExampleRules.{length_stands, length_folds}
use Rattle.mc_rules_logic.proofs.FoldLemmas.Parts.{PartLaws}
use Rattle.mc_rules_logic.proofs.fold.examples.example_of_arguments.Goals as goal

pub returns-clause-stands : goal.returns-clause-stands
returns-clause-stands c =
    let parts : PartLaws = record {
      commutes = c.parts_regroup.ensures.commutes;
      left = c.parts_regroup.ensures.left;
      drops_empty = c.parts_regroup.ensures.drops_empty;
      adds_empty = c.parts_regroup.ensures.adds_empty;
    } in
    length_stands parts c.example_premises.ensures.split

pub returns-clause-ind : goal.returns-clause-ind
returns-clause-ind c =
    let parts : PartLaws = record {
      commutes = c.parts_regroup.ensures.commutes;
      left = c.parts_regroup.ensures.left;
      drops_empty = c.parts_regroup.ensures.drops_empty;
      adds_empty = c.parts_regroup.ensures.adds_empty;
    } in
    length_folds c.derived_is_true.ensures.not_false c.body_premises.ensures.addresses (length_stands parts c.example_premises.ensures.split)
