use Rattle.mc_rules_logic.proofs.FoldLemmas.Naming.{NamingLaws, name_spare, merge_nodes, drop_edge, forget_node}
use Rattle.mc_rules_logic.proofs.fold.laws.naming_is_sound.Goals as goal

pub returns : goal.returns
returns c =
    let laws : NamingLaws = record {
      truth = c.derived_is_true.ensures.derived;
      equal = c.derived_is_true.ensures.equal;
      nodes = c.new_nodes_are_free.ensures.nodes;
      values = c.new_nodes_are_free.ensures.values;
      atoms = c.new_nodes_are_free.ensures.atoms;
      atoms_dropped = c.less_is_known.ensures.atoms;
      edges_dropped = c.edges_come_and_go.ensures.dropped;
      node_dropped = c.less_is_known.ensures.node;
      merged = c.merging_is_sound.ensures.forth;
      nodes_bounded = c.numbers_stay_bounded.ensures.nodes;
      atoms_bounded = c.numbers_stay_bounded.ensures.atoms;
      fewer_bounded = c.numbers_stay_bounded.ensures.fewer_edges;
      merged_bounded = c.numbers_stay_bounded.ensures.merged;
      dropped_bounded = c.numbers_stay_bounded.ensures.dropped;
      new_there = c.nodes_are_there.ensures.new;
    } in
    record { spare = name_spare laws; merge = merge_nodes laws; drop_edge = drop_edge laws; forget = forget_node laws }
