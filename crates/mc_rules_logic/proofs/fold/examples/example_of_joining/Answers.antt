use Rattle.mc_rules_logic.proofs.FoldLemmas.ExampleFolds.{joining_stands, segments_join}
use Rattle.mc_rules_logic.proofs.FoldLemmas.Parts.{PartLaws}
use Rattle.mc_rules_logic.proofs.fold.examples.example_of_joining.Goals as goal

pub returns-clause-stands : goal.returns-clause-stands
returns-clause-stands c =
    let parts : PartLaws = record {
      commutes = c.parts_regroup.ensures.commutes;
      left = c.parts_regroup.ensures.left;
      drops_empty = c.parts_regroup.ensures.drops_empty;
      adds_empty = c.parts_regroup.ensures.adds_empty;
    } in
    joining_stands parts c.example_premises.ensures.split c.example_segments.ensures.one_cell c.example_premises.ensures.to_null

pub returns-clause-joins : goal.returns-clause-joins
returns-clause-joins c =
    let parts : PartLaws = record {
      commutes = c.parts_regroup.ensures.commutes;
      left = c.parts_regroup.ensures.left;
      drops_empty = c.parts_regroup.ensures.drops_empty;
      adds_empty = c.parts_regroup.ensures.adds_empty;
    } in
    segments_join c.derived_is_true.ensures.not_false c.body_premises.ensures.addresses (joining_stands parts c.example_premises.ensures.split c.example_segments.ensures.one_cell c.example_premises.ensures.to_null)
