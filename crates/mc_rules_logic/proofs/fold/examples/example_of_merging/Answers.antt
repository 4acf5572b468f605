use Rattle.mc_rules_logic.proofs.FoldLemmas.ExampleNames.{twice_stands, nodes_merged}
use Rattle.mc_rules_logic.proofs.FoldLemmas.Parts.{PartLaws}
use Rattle.mc_rules_logic.proofs.fold.examples.example_of_merging.Goals as goal

pub returns-clause-stands : goal.returns-clause-stands
returns-clause-stands c =
    let parts : PartLaws = record {
      commutes = c.parts_regroup.ensures.commutes;
      left = c.parts_regroup.ensures.left;
      drops_empty = c.parts_regroup.ensures.drops_empty;
      adds_empty = c.parts_regroup.ensures.adds_empty;
    } in
    twice_stands parts c.example_predicates.ensures.two_cells

pub returns-clause-merges : goal.returns-clause-merges
returns-clause-merges c =
    let parts : PartLaws = record {
      commutes = c.parts_regroup.ensures.commutes;
      left = c.parts_regroup.ensures.left;
      drops_empty = c.parts_regroup.ensures.drops_empty;
      adds_empty = c.parts_regroup.ensures.adds_empty;
    } in
    nodes_merged c.derived_is_true.ensures.not_false c.body_premises.ensures.addresses (twice_stands parts c.example_predicates.ensures.two_cells)
