use Rattle.mc_rules_logic.proofs.FoldLemmas.ExampleFolds.{lengths_stand}
use Rattle.mc_rules_logic.proofs.FoldLemmas.Parts.{PartLaws}
use Rattle.mc_rules_logic.proofs.FoldLemmas.WrongFolds.{not_any_args}
use Rattle.mc_rules_logic.proofs.fold.wrong.wrong_closing.Goals as goal

pub returns : goal.returns
returns c =
    let parts : PartLaws = record {
      commutes = c.parts_regroup.ensures.commutes;
      left = c.parts_regroup.ensures.left;
      drops_empty = c.parts_regroup.ensures.drops_empty;
      adds_empty = c.parts_regroup.ensures.adds_empty;
    } in
    not_any_args parts c.derived_is_true.ensures.not_false c.body_premises.ensures.addresses (lengths_stand parts c.example_predicates.ensures.length_two) c.example_predicates.ensures.no_length_three
