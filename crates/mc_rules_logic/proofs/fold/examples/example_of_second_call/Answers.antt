use Rattle.mc_rules_logic.proofs.FoldLemmas.ExampleRules.{fork_stands, fork_addresses, fork_folds}
use Rattle.mc_rules_logic.proofs.FoldLemmas.Parts.{PartLaws}
use Rattle.mc_rules_logic.proofs.fold.examples.example_of_second_call.Goals as goal

pub returns-clause-stands : goal.returns-clause-stands
returns-clause-stands c =
    let parts : PartLaws = record {
      commutes = c.parts_regroup.ensures.commutes;
      left = c.parts_regroup.ensures.left;
      drops_empty = c.parts_regroup.ensures.drops_empty;
      adds_empty = c.parts_regroup.ensures.adds_empty;
    } in
    fork_stands parts

pub returns-clause-addresses : goal.returns-clause-addresses
returns-clause-addresses c = fork_addresses c.heaps_change_one_address.ensures.insert_keeps c.example_premises.ensures.addresses

pub returns-clause-seg : goal.returns-clause-seg
returns-clause-seg c =
    let parts : PartLaws = record {
      commutes = c.parts_regroup.ensures.commutes;
      left = c.parts_regroup.ensures.left;
      drops_empty = c.parts_regroup.ensures.drops_empty;
      adds_empty = c.parts_regroup.ensures.adds_empty;
    } in
    fork_folds c.derived_is_true.ensures.not_false (fork_addresses c.heaps_change_one_address.ensures.insert_keeps c.example_premises.ensures.addresses) (fork_stands parts)
