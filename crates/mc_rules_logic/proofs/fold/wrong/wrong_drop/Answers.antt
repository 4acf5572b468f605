use Rattle.mc_rules_logic.proofs.FoldLemmas.ExampleNames.{lost_stands, edge_drops}
use Rattle.mc_rules_logic.proofs.FoldLemmas.Parts.{PartLaws}
use Rattle.mc_rules_logic.proofs.FoldLemmas.WrongFolds.{not_whole}
use Rattle.mc_rules_logic.proofs.fold.wrong.wrong_drop.Goals as goal

pub returns : goal.returns
returns c =
    let parts : PartLaws = record {
      commutes = c.parts_regroup.ensures.commutes;
      left = c.parts_regroup.ensures.left;
      drops_empty = c.parts_regroup.ensures.drops_empty;
      adds_empty = c.parts_regroup.ensures.adds_empty;
    } in
    let st = lost_stands parts c.example_predicates.ensures.two_cells in
    not_whole parts (edge_drops c.derived_is_true.ensures.not_false c.body_premises.ensures.addresses st c.derived_is_true.ensures.equal) c.body_premises.ensures.addresses st
