use Rattle.mc_rules_logic.proofs.FoldLemmas.Meeting.{meet_goal}
use Rattle.mc_rules_logic.proofs.FoldLemmas.Parts.{PartLaws}
use Rattle.mc_rules_logic.proofs.fold.laws.goals_are_met.Goals as goal

pub returns : goal.returns
returns c =
    let parts : PartLaws = record {
      commutes = c.parts_regroup.ensures.commutes;
      left = c.parts_regroup.ensures.left;
      drops_empty = c.parts_regroup.ensures.drops_empty;
      adds_empty = c.parts_regroup.ensures.adds_empty;
    } in
    meet_goal parts c.derived_is_true.ensures.equal c.edges_come_and_go.ensures.taken
