use Rattle.mc_rules_logic.proofs.FoldLemmas.ExampleNames.{small_stands, spare_named}
use Rattle.mc_rules_logic.proofs.FoldLemmas.Parts.{PartLaws}
use Rattle.mc_rules_logic.proofs.fold.examples.example_of_spare.Goals as goal

pub returns-clause-stands : goal.returns-clause-stands
returns-clause-stands c =
    let parts : PartLaws = record {
      commutes = c.parts_regroup.ensures.commutes;
      left = c.parts_regroup.ensures.left;
      drops_empty = c.parts_regroup.ensures.drops_empty;
      adds_empty = c.parts_regroup.ensures.adds_empty;
    } in
    small_stands parts c.heaps_change_one_address.ensures.empty

pub returns-clause-names : goal.returns-clause-names
returns-clause-names c =
    let parts : PartLaws = record {
      commutes = c.parts_regroup.ensures.commutes;
      left = c.parts_regroup.ensures.left;
      drops_empty = c.parts_regroup.ensures.drops_empty;
      adds_empty = c.parts_regroup.ensures.adds_empty;
    } in
    spare_named c.derived_is_true.ensures.not_false c.example_premises.ensures.addresses (small_stands parts c.heaps_change_one_address.ensures.empty)
