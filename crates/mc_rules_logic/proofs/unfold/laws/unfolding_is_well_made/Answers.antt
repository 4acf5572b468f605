use Rattle.mc_rules_logic.proofs.UnfoldLemmas.MadeWell.{KeepLaws, emptied_made, ind_makes, seg_makes}
use Rattle.mc_rules_logic.proofs.unfold.laws.unfolding_is_well_made.Goals as goal

pub returns : goal.returns
returns c =
    let k = c.states_stay_well_made.ensures in
    let laws : KeepLaws = record { nodes = k.nodes; edges = k.edges; atoms = k.atoms; fewer = k.fewer_edges; have_kinds = c.nodes_are_there.ensures.kinds } in
    record { emptied = emptied_made laws; ind = ind_makes laws; seg = seg_makes laws }
