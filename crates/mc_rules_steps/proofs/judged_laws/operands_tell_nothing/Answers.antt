use Rattle.mc_rules_steps.proofs.LowerLaws.{MadeLaws}
use Rattle.mc_rules_steps.proofs.OperandsAdd as proof
use Rattle.mc_rules_steps.proofs.judged_laws.operands_tell_nothing.Goals as goal

pub returns : goal.returns
returns c =
    let laws : MadeLaws = record {
      bounds = record {
        var = c.numbers_stay_bounded.ensures.var;
        nodes = c.numbers_stay_bounded.ensures.nodes;
        atoms = c.numbers_stay_bounded.ensures.atoms;
        edges = c.numbers_stay_bounded.ensures.edges;
        fewer_edges = c.numbers_stay_bounded.ensures.fewer_edges;
        replaced = c.numbers_stay_bounded.ensures.replaced;
        new = c.nodes_are_there.ensures.new;
        below = c.nodes_are_there.ensures.below;
      };
      kinds = c.nodes_are_there.ensures.kinds;
    } in
    record { sound = proof.operands_keep_sound laws.bounds; told = proof.operands_tell_nothing laws.bounds; ranges = proof.ranges_suffice laws }
