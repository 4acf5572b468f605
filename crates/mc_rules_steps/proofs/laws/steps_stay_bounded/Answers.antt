use Rattle.mc_rules_steps.proofs.Bounded as proof
use Rattle.mc_rules_steps.proofs.LowerLaws.{BoundLaws}
use Rattle.mc_rules_steps.proofs.laws.steps_stay_bounded.Goals as goal

pub returns : goal.returns
returns c =
    let laws : BoundLaws = record {
      var = c.numbers_stay_bounded.ensures.var;
      nodes = c.numbers_stay_bounded.ensures.nodes;
      atoms = c.numbers_stay_bounded.ensures.atoms;
      edges = c.numbers_stay_bounded.ensures.edges;
      fewer_edges = c.numbers_stay_bounded.ensures.fewer_edges;
      replaced = c.numbers_stay_bounded.ensures.replaced;
      new = c.nodes_are_there.ensures.new;
      below = c.nodes_are_there.ensures.below;
    } in
    proof.steps_stay_bounded laws
