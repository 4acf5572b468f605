use Rattle.mc_rules_steps.proofs.WhatFits as proof
use Rattle.mc_rules_steps.proofs.LowerLaws.{MadeLaws}
use Rattle.mc_rules_steps.proofs.fitting.operands_fit.Goals as goal

pub returns : goal.returns
returns c =
    let laws : MadeLaws = record {
      bounds = record {
        var = c.numbers_stay_bounded.ensures.var;
        nodes = c.numbers_stay_bounded.ensures.nodes;
        atoms = c.numbers_stay_bounded.ensures.atoms;
        edges = c.numbers_stay_bounded.ensures.edges;
        fewer_edges = c.numbers_stay_bounded.ensures.fewer_edges;
        replaced = c.numbers_stay_bounded.ensures.replaced;
        new = c.nodes_are_there.ensures.new;
        below = c.nodes_are_there.ensures.below;
      };
      kinds = c.nodes_are_there.ensures.kinds;
    } in
    record { one = proof.operand_fits laws; many = proof.operands_fit laws; constants = proof.constants_fit }
