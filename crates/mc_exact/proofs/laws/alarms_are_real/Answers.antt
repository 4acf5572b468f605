use Rattle.mc_exact.proofs.LowerLaws.{RunLaws, StateLaws}
use Rattle.mc_exact.proofs.Real.{alarms_of_branches}
use Rattle.mc_exact.proofs.laws.alarms_are_real.Goals as goal

pub returns : goal.returns
returns c =
    let runs : RunLaws = record {
      insert = c.heaps_change_one_address.ensures.insert;
      remove = c.heaps_change_one_address.ensures.remove;
      derived = c.derived_is_true.ensures.derived;
    } in
    let states : StateLaws = record {
      made = c.steps_are_well_made.ensures;
      unknown = c.numbers_stay_bounded.ensures.unknown;
      ranged = c.least_ranges_are_known.ensures.number;
    } in
    alarms_of_branches runs states
