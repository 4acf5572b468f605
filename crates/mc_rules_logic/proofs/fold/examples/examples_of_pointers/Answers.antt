use Rattle.mc_rules_logic.proofs.FoldLemmas.ExampleFolds.{pointer_stands, segment_made}
use Rattle.mc_rules_logic.proofs.FoldLemmas.ExampleForgets.{pointer_forgotten}
use Rattle.mc_rules_logic.proofs.FoldLemmas.Parts.{PartLaws}
use Rattle.mc_rules_logic.proofs.fold.examples.examples_of_pointers.Goals as goal

pub returns-clause-stands : goal.returns-clause-stands
returns-clause-stands c =
    let parts : PartLaws = record {
      commutes = c.parts_regroup.ensures.commutes;
      left = c.parts_regroup.ensures.left;
      drops_empty = c.parts_regroup.ensures.drops_empty;
      adds_empty = c.parts_regroup.ensures.adds_empty;
    } in
    pointer_stands parts c.heaps_change_one_address.ensures.empty

pub returns-clause-makes : goal.returns-clause-makes
returns-clause-makes c =
    let parts : PartLaws = record {
      commutes = c.parts_regroup.ensures.commutes;
      left = c.parts_regroup.ensures.left;
      drops_empty = c.parts_regroup.ensures.drops_empty;
      adds_empty = c.parts_regroup.ensures.adds_empty;
    } in
    segment_made c.derived_is_true.ensures.not_false c.example_premises.ensures.addresses (pointer_stands parts c.heaps_change_one_address.ensures.empty)

pub returns-clause-forgets : goal.returns-clause-forgets
returns-clause-forgets c =
    let parts : PartLaws = record {
      commutes = c.parts_regroup.ensures.commutes;
      left = c.parts_regroup.ensures.left;
      drops_empty = c.parts_regroup.ensures.drops_empty;
      adds_empty = c.parts_regroup.ensures.adds_empty;
    } in
    pointer_forgotten c.derived_is_true.ensures.derived c.derived_is_true.ensures.not_false c.derived_grows.ensures.atoms c.example_premises.ensures.addresses (pointer_stands parts c.heaps_change_one_address.ensures.empty)
