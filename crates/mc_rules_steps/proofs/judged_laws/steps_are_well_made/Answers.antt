use Rattle.mc_rules_steps.proofs.LowerLaws.{MadeLaws}
use Rattle.mc_rules_steps.proofs.StepsMade as proof
use Rattle.mc_rules_steps.proofs.judged_laws.steps_are_well_made.Goals as goal

pub returns : goal.returns
returns c =
    let laws : MadeLaws = record {
      bounds = record {
        var = c.numbers_stay_bounded.ensures.var;
        nodes = c.numbers_stay_bounded.ensures.nodes;
        atoms = c.numbers_stay_bounded.ensures.atoms;
        edges = c.numbers_stay_bounded.ensures.edges;
        fewer_edges = c.numbers_stay_bounded.ensures.fewer_edges;
        replaced = c.numbers_stay_bounded.ensures.replaced;
        new = c.nodes_are_there.ensures.new;
        below = c.nodes_are_there.ensures.below;
      };
      kinds = c.nodes_are_there.ensures.kinds;
    } in
    proof.steps_are_well_made laws
