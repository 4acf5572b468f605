use Rattle.mc_rules_logic.proofs.BackLemmas.Sound.{BackLaws, unfold_back}
use Rattle.mc_rules_logic.proofs.back.laws.back_is_sound.Goals as goal

pub returns : goal.returns
returns c =
    let laws : BackLaws = record {
      commutes = c.parts_regroup.ensures.commutes;
      drops_empty = c.parts_regroup.ensures.drops_empty;
      begins = c.segments_are_bodies.ensures.begins;
      ends = c.segments_end_with_bodies.ensures;
      bodies = c.bodies_are_edges.ensures.bodies;
      nodes = c.new_nodes_are_free.ensures.nodes;
      values = c.new_nodes_are_free.ensures.values;
      agree = c.new_nodes_are_free.ensures.values_agree;
      atoms = c.new_nodes_are_free.ensures.atoms;
      taken = c.edges_come_and_go.ensures.taken;
      put = c.edges_come_and_go.ensures.put;
      nodes_bounded = c.numbers_stay_bounded.ensures.nodes;
      atoms_bounded = c.numbers_stay_bounded.ensures.atoms;
      edges_bounded = c.numbers_stay_bounded.ensures.edges;
      fewer_bounded = c.numbers_stay_bounded.ensures.fewer_edges;
      new_there = c.nodes_are_there.ensures.new;
      picked_there = c.nodes_are_there.ensures.picked;
      rule_atoms = c.rules_stand_at_nodes.ensures.atoms;
      equal_true = c.rules_stand_at_nodes.ensures.equal;
      name_there = c.rules_stand_at_nodes.ensures.name_there;
      body_there = c.rules_stand_at_nodes.ensures.body_there;
      atoms_there = c.rules_stand_at_nodes.ensures.atoms_there;
      equal_there = c.rules_stand_at_nodes.ensures.equal_there;
      listed = c.own_places_are_calls.ensures.listed;
    } in
    unfold_back laws
