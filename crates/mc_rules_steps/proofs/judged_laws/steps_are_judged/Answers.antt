use Rattle.mc_rules_steps.proofs.Judged as proof
use Rattle.mc_rules_steps.proofs.LowerLaws.{MadeLaws}
use Rattle.mc_rules_steps.proofs.Once as once
use Rattle.mc_rules_steps.proofs.judged_laws.steps_are_judged.Goals as goal

pub returns : goal.returns
returns c =
    let law = c.contradictions_are_false.ensures.one_node in
    let laws : MadeLaws = record {
      bounds = record {
        var = c.numbers_stay_bounded.ensures.var;
        nodes = c.numbers_stay_bounded.ensures.nodes;
        atoms = c.numbers_stay_bounded.ensures.atoms;
        edges = c.numbers_stay_bounded.ensures.edges;
        fewer_edges = c.numbers_stay_bounded.ensures.fewer_edges;
        replaced = c.numbers_stay_bounded.ensures.replaced;
        new = c.nodes_are_there.ensures.new;
        below = c.nodes_are_there.ensures.below;
      };
      kinds = c.nodes_are_there.ensures.kinds;
    } in
    record { judged = proof.steps_are_judged law laws; once = once.steps_are_one law; decided = proof.steps_are_decided law laws }
