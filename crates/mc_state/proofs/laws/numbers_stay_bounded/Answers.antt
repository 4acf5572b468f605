use Rattle.mc_state.proofs.Bounds as proof
use Rattle.mc_state.proofs.Images as image
use Rattle.mc_state.proofs.laws.numbers_stay_bounded.Goals as goal

pub returns : goal.returns
returns c =
    record {
      unknown = proof.unknown_is_bounded;
      var = proof.var_stays_bounded;
      nodes = proof.nodes_stay_bounded;
      atoms = proof.atoms_stay_bounded;
      edges = proof.edges_stay_bounded;
      fewer_edges = proof.fewer_edges_stay_bounded;
      replaced = proof.replaced_stays_bounded;
      renamed = image.renamed_stays_bounded;
      merged = image.merged_stays_bounded;
      dropped = image.dropped_stays_bounded;
    }
