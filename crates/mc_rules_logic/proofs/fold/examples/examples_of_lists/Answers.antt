use Rattle.mc_rules_logic.proofs.FoldLemmas.ExampleNames.{lost_stands, goal_met, edge_drops}
use Rattle.mc_rules_logic.proofs.FoldLemmas.Parts.{PartLaws}
use Rattle.mc_rules_logic.proofs.fold.examples.examples_of_lists.Goals as goal

pub returns-clause-stands : goal.returns-clause-stands
returns-clause-stands c =
    let parts : PartLaws = record {
      commutes = c.parts_regroup.ensures.commutes;
      left = c.parts_regroup.ensures.left;
      drops_empty = c.parts_regroup.ensures.drops_empty;
      adds_empty = c.parts_regroup.ensures.adds_empty;
    } in
    lost_stands parts c.example_predicates.ensures.two_cells

pub returns-clause-meets : goal.returns-clause-meets
returns-clause-meets c =
    let parts : PartLaws = record {
      commutes = c.parts_regroup.ensures.commutes;
      left = c.parts_regroup.ensures.left;
      drops_empty = c.parts_regroup.ensures.drops_empty;
      adds_empty = c.parts_regroup.ensures.adds_empty;
    } in
    goal_met c.derived_is_true.ensures.not_false c.body_premises.ensures.addresses (lost_stands parts c.example_predicates.ensures.two_cells)

pub returns-clause-drops : goal.returns-clause-drops
returns-clause-drops c =
    let parts : PartLaws = record {
      commutes = c.parts_regroup.ensures.commutes;
      left = c.parts_regroup.ensures.left;
      drops_empty = c.parts_regroup.ensures.drops_empty;
      adds_empty = c.parts_regroup.ensures.adds_empty;
    } in
    edge_drops c.derived_is_true.ensures.not_false c.body_premises.ensures.addresses (lost_stands parts c.example_predicates.ensures.two_cells) c.derived_is_true.ensures.equal
