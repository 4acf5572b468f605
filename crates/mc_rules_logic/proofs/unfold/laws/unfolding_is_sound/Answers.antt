use Rattle.mc_rules_logic.proofs.UnfoldLemmas.Openings.{UnfoldLaws}
use Rattle.mc_rules_logic.proofs.UnfoldLemmas.Unfolds.{unfold_ind, unfold_seg}
use Rattle.mc_rules_logic.proofs.unfold.laws.unfolding_is_sound.Goals as goal

pub returns : goal.returns
returns c =
    let laws : UnfoldLaws = record {
      commutes = c.parts_regroup.ensures.commutes;
      drops_empty = c.parts_regroup.ensures.drops_empty;
      unfolds = c.predicates_are_bodies.ensures.unfolds;
      begins = c.segments_are_bodies.ensures.begins;
      bodies = c.bodies_are_edges.ensures.bodies;
      seg_bodies = c.bodies_are_edges.ensures.segments;
      nodes = c.new_nodes_are_free.ensures.nodes;
      values = c.new_nodes_are_free.ensures.values;
      atoms = c.new_nodes_are_free.ensures.atoms;
      taken = c.edges_come_and_go.ensures.taken;
      put = c.edges_come_and_go.ensures.put;
      nodes_bounded = c.numbers_stay_bounded.ensures.nodes;
      atoms_bounded = c.numbers_stay_bounded.ensures.atoms;
      edges_bounded = c.numbers_stay_bounded.ensures.edges;
      fewer_bounded = c.numbers_stay_bounded.ensures.fewer_edges;
      new_there = c.nodes_are_there.ensures.new;
      picked_there = c.nodes_are_there.ensures.picked;
    } in
    record { ind = unfold_ind laws; seg = unfold_seg laws }
