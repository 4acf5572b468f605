use Rattle.mc_rules_logic.proofs.BackLemmas.MadeWell.{MadeLaws, back_makes}
use Rattle.mc_rules_logic.proofs.back.laws.back_is_well_made.Goals as goal

pub returns : goal.returns
returns c =
    let k = c.states_stay_well_made.ensures in
    let laws : MadeLaws = record {
      nodes = k.nodes;
      edges = k.edges;
      atoms = k.atoms;
      fewer = k.fewer_edges;
      edge = k.edge;
      emptied = c.unfolding_is_well_made.ensures.emptied;
      have_kinds = c.nodes_are_there.ensures.kinds;
      fits = c.rules_are_made.ensures.fits;
      rules = c.rules_are_made.ensures.rules;
      equal = c.rules_are_made.ensures.equal;
      own = c.own_places_are_calls.ensures.own;
    } in
    back_makes laws
