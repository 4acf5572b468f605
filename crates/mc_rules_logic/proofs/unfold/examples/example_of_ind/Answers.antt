use Rattle.mc_rules_logic.proofs.UnfoldLemmas.ExampleStates.{list_made, list_stands, list_unfolds}
use Rattle.mc_rules_logic.proofs.unfold.examples.example_of_ind.Goals as goal

pub returns-clause-made : goal.returns-clause-made
returns-clause-made c = list_made

pub returns-clause-unfolds : goal.returns-clause-unfolds
returns-clause-unfolds c =
    let p = c.parts_regroup.ensures in
    list_unfolds c.derived_is_true.ensures.not_false c.body_premises.ensures.addresses (list_stands p.commutes p.adds_empty c.example_predicates.ensures.two_cells)

pub returns-clause-stands : goal.returns-clause-stands
returns-clause-stands c = let p = c.parts_regroup.ensures in list_stands p.commutes p.adds_empty c.example_predicates.ensures.two_cells
