use Rattle.mc_rules_logic.proofs.FoldLemmas.ExampleFolds.{lengths_stand, lengths_differ}
use Rattle.mc_rules_logic.proofs.FoldLemmas.Parts.{PartLaws}
use Rattle.mc_rules_logic.proofs.fold.examples.example_of_other_length.Goals as goal

pub returns-clause-stands : goal.returns-clause-stands
returns-clause-stands c =
    let parts : PartLaws = record {
      commutes = c.parts_regroup.ensures.commutes;
      left = c.parts_regroup.ensures.left;
      drops_empty = c.parts_regroup.ensures.drops_empty;
      adds_empty = c.parts_regroup.ensures.adds_empty;
    } in
    lengths_stand parts c.example_predicates.ensures.length_two

pub returns-clause-not_closed : goal.returns-clause-not_closed
returns-clause-not_closed c =
    let parts : PartLaws = record {
      commutes = c.parts_regroup.ensures.commutes;
      left = c.parts_regroup.ensures.left;
      drops_empty = c.parts_regroup.ensures.drops_empty;
      adds_empty = c.parts_regroup.ensures.adds_empty;
    } in
    lengths_differ c.derived_is_true.ensures.equal c.body_premises.ensures.addresses (lengths_stand parts c.example_predicates.ensures.length_two)
