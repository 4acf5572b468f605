use Rattle.mc_rules_logic.proofs.FoldLemmas.ExampleFolds.{closing_stands, segment_closes}
use Rattle.mc_rules_logic.proofs.FoldLemmas.Parts.{PartLaws}
use Rattle.mc_rules_logic.proofs.fold.examples.example_of_closing.Goals as goal

pub returns-clause-stands : goal.returns-clause-stands
returns-clause-stands c =
    let parts : PartLaws = record {
      commutes = c.parts_regroup.ensures.commutes;
      left = c.parts_regroup.ensures.left;
      drops_empty = c.parts_regroup.ensures.drops_empty;
      adds_empty = c.parts_regroup.ensures.adds_empty;
    } in
    closing_stands parts c.example_premises.ensures.split c.example_segments.ensures.one_cell c.example_premises.ensures.at_end

pub returns-clause-closes : goal.returns-clause-closes
returns-clause-closes c =
    let parts : PartLaws = record {
      commutes = c.parts_regroup.ensures.commutes;
      left = c.parts_regroup.ensures.left;
      drops_empty = c.parts_regroup.ensures.drops_empty;
      adds_empty = c.parts_regroup.ensures.adds_empty;
    } in
    segment_closes c.derived_is_true.ensures.not_false c.body_premises.ensures.addresses (closing_stands parts c.example_premises.ensures.split c.example_segments.ensures.one_cell c.example_premises.ensures.at_end)
