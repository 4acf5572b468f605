use Rattle.mc_apply_unfold.proofs.Taking.{TakingLaws, back_takes, ind_takes, seg_takes}
use Rattle.mc_apply_unfold.proofs.laws.edges_take_rules.Goals as goal

pub returns : goal.returns
returns c =
    let laws : TakingLaws = record {
      have_kinds = c.nodes_are_there.ensures.kinds;
      new_there = c.nodes_are_there.ensures.new;
      edge = c.states_stay_well_made.ensures.edge;
      fits = c.rules_are_made.ensures.fits;
      rules = c.rules_are_made.ensures.rules;
      equal = c.rules_are_made.ensures.equal;
    } in
    record { ind = ind_takes laws; seg = seg_takes laws; back = back_takes laws }
