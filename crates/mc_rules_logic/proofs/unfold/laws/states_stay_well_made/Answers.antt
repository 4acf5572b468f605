use Rattle.mc_rules_logic.proofs.UnfoldLemmas.Keeping.{nodes_kept, edges_kept, atoms_kept, fewer_kept, edge_of_fitting}
use Rattle.mc_rules_logic.proofs.unfold.laws.states_stay_well_made.Goals as goal

pub returns : goal.returns
returns c =
    let b = c.numbers_stay_bounded.ensures in
    record {
      nodes = nodes_kept b.nodes c.nodes_are_there.ensures.kinds;
      edges = edges_kept b.edges;
      atoms = atoms_kept b.atoms;
      fewer_edges = fewer_kept b.fewer_edges;
      edge = edge_of_fitting;
    }
